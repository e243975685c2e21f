-- What is known of a result by cases, where it can't be a value, and where it can't be a refusal.
-- Assumes nothing.
use Rattle.std.proofs.Common.{◌≡◌, refl}
use Rattle.std.specs.Prelude.{Result, Ok, Err, MatchResult}

module _ {A E : Type 0} (r : Result A E) {P : A → Type 0} {Q : E → Type 0} (known : MatchResult r P Q) where
  pub is_refused : ((x : A) → P x → ⊥) → (e : E) × (r ≡ Err e) × Q e
  is_refused never = (elim r as (λ (q : Result A E). MatchResult q P Q → (e : E) × (q ≡ Err e) × Q e) [
    | Ok x ↦ λ p. absurd (never x p)
    | Err e ↦ λ q. (e, refl, q)
  ]) known

  pub is_accepted : ((e : E) → Q e → ⊥) → (x : A) × (r ≡ Ok x) × P x
  is_accepted never = (elim r as (λ (q : Result A E). MatchResult q P Q → (x : A) × (q ≡ Ok x) × P x) [
    | Ok x ↦ λ p. (x, refl, p)
    | Err e ↦ λ q. absurd (never e q)
  ]) known
