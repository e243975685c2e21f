-- What a call tests, in order: it answers the first refusal, or what it is to answer where every test holds.
-- Assumes nothing.
use Rattle.std.specs.Prelude.{Bool, cond, List, [], ◌∷◌, ℕ}
use Rattle.refusals.specs.Numbers.{accepted}

pub record Test : Type 0 where
  pub holds : Bool
  pub refusal : ℕ

abbrev pub test : Bool → ℕ → Test
test b n = record { holds = b; refusal = n }

abbrev pub tested : {A : Type 0} → List Test → A → (ℕ → A) → A
tested [] ok bad = ok
tested (t ∷ ts) ok bad = cond t.holds (tested ts ok bad) (bad t.refusal)

-- the number alone
abbrev pub first : List Test → ℕ
first ts = tested ts accepted (λ n. n)
