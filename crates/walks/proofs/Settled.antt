-- A promise as it stands in the program logic: that it settles the answer is that whoever holds it of two answers holds that they are equal.
-- Assumes nothing.
use mathlib.Core.Path.{◌≡◌, sym, ◌∙◌}
use seplogic.Ra.Ura.{Ura}
use base.Logic.{ent, sep, fst∗, snd∗}
use contract.Monad.{fact, fact_i, fact_use}
use denote.Triple.Clauses.{Clauses, Ended}

-- what follows from two facts
pub facts_settle : {M : Type 1} (𝓤 : Ura M) {P Q R : Type 0} → (P → Q → R) → ent 𝓤 (sep 𝓤 (fact 𝓤 P) (fact 𝓤 Q)) (fact 𝓤 R)
facts_settle 𝓤 {P} {Q} {R} both =
    fact_use 𝓤 P (fst∗ 𝓤 (fact 𝓤 P) (fact 𝓤 Q)) (λ e.
    fact_use 𝓤 Q (snd∗ 𝓤 (fact 𝓤 P) (fact 𝓤 Q)) (λ f. fact_i 𝓤 R _ (both e f)))

-- two facts that name the same answer
pub facts_agree : {M : Type 1} (𝓤 : Ura M) {B : Type 0} {r q a b : B} → a ≡ b → ent 𝓤 (sep 𝓤 (fact 𝓤 (r ≡ a)) (fact 𝓤 (q ≡ b))) (fact 𝓤 (r ≡ q))
facts_agree 𝓤 same = facts_settle 𝓤 (λ e f. e ∙ same ∙ sym f)

-- for whatever arguments and whatever they are at exit
abbrev pub Settles : {M : Type 1} (𝓤 : Ura M) (T : Ended) → Clauses 𝓤 T → Type 1
Settles 𝓤 T c = (κs : _) (args : _) (g : _) (r q : _) (exit : _) → ent 𝓤 (sep 𝓤 ((c κs args).ensures g r exit) ((c κs args).ensures g q exit)) (fact 𝓤 (r ≡ q))
