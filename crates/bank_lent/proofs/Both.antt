-- A batch over an array with a used length and a batch over a lent list are one step: of the same records they give the same answer, and a
-- history whose batches go through either form is the same history, so that the bank's theorem covers both.
-- Assumes nothing.
use mathlib.Core.Logic.{◌⊎◌, inl, inr}
use mathlib.Core.Path.{◌≡◌, refl, sym, ap, ◌∙◌}
use mathlib.Core.List.{List, [], ◌∷◌}
use mathlib.Core.Option.{none}
use Prim.Native.Nat.{ℕ}
use lib.ListN.{replicate}
use seplogic.Ra.Ura.{Ura}
use base.Logic.{SProp, ent, sep}
use prog.Memory.{Memory}
use prog.Routine.{Routine}
use types.Logic.{Logic}
use contract.Monad.{Fun, fact}
use denote.Ref.{Bor}
use Rattle.std.specs.Prelude.{Result}
use Rattle.refusals.specs.declared.refusal.BatchRefusal.{BatchRefusal}
use Rattle.bank.specs.Rules.{Call, on, update_many, Kind, step, answers, after}
use Rattle.bank.specs.Slots.{slots, slot_limit, batch_limit, empty_bank, told, batch_answer}
use Rattle.bank.specs.Table.{table}
use Rattle.bank.specs.Made.{All, Made}
use Rattle.bank.specs.declared.bank.Bank.{Bank}
use Rattle.bank.specs.declared.piece.Piece.{Piece}
use Rattle.bank.proofs.History.{bank_history}
use Rattle.bank.specs.contracts.bank.Bank.update_many as array_form
use Rattle.bank_lent.specs.Forms.{Front, lent, Lends, Alike}
use Rattle.bank_lent.specs.contracts.update_many as lent_form
use Rattle.bank_lent.proofs.Fronts.{front_serves}
use Rattle.walks.proofs.Settled.{facts_settle}
use Rattle.bank.proofs.Unique.{records_settled}

-- what the two functions promise, of the same records: an answer that meets the one promise is the answer that meets the other
pub same_answer : {M : Type 1} {𝓤 : Ura M} (𝓛 : Logic 𝓤) (mem : Memory → SProp 𝓤) (run : Routine → Fun 𝓤) (κs : _) (κs' : _)
    (b : Bank) (ps : List Piece) (used : ℕ) (x : Bor (List Piece)) (z z' : Bor (List ℕ)) (r q : Result Bank BatchRefusal) (exit : _) (exit' : _)
    → Front ps used x.now → z.now ≡ z'.now
    → ent 𝓤 (sep 𝓤 ((array_form.clauses 𝓛 mem run κs (b, (ps, (used, (z, tt))))).ensures tt r exit) ((lent_form.clauses 𝓛 mem run κs' (b, (x, (z', tt)))).ensures tt q exit')) (fact 𝓤 (r ≡ q))
same_answer {𝓤 = 𝓤} 𝓛 mem run κs κs' b ps used x z z' r q exit exit' f e =
    let same : told b (update_many ps used z.now) ≡ told b (lent x.now z'.now) =
    ap (λ (d : List ℕ). told b (update_many ps used d)) e ∙ sym (front_serves slots slot_limit batch_limit b.slots z'.now ps x.now used f) in
    facts_settle 𝓤 (λ g h. records_settled b (g ∙ ap batch_answer same ∙ sym h))

module _ {X : Type 0} (kind : Kind X) (n most : ℕ) where
  one_step : (xs : List X) (c e : Call) → (c ≡ e) ⊎ Lends c e → step kind n most xs c ≡ step kind n most xs e
  one_step xs c e (inl h) = ap (step kind n most xs) h
  one_step xs (on k ask) e (inr h) = absurd h
  one_step xs (update_many ps used d) e (inr h) = sym (front_serves kind n most xs d ps h.0 used h.1) ∙ ap (step kind n most xs) (sym h.2)

  pub same_history : (xs : List X) (cs es : List Call) → Alike cs es → (answers kind n most xs cs ≡ answers kind n most xs es) × (after kind n most xs cs ≡ after kind n most xs es)
  unfolding answers after
  same_history xs [] [] h = (refl, refl)
  same_history xs [] (e ∷ es) h = absurd h
  same_history xs (c ∷ cs) [] h = absurd h
  same_history xs (c ∷ cs) (e ∷ es) h =
      let s : step kind n most xs c ≡ step kind n most xs e = one_step xs c e h.0 in
      let rest = same_history (step kind n most xs e).slots cs es h.1 in
      (rw s (ap (λ (said : List _). (step kind n most xs e).answer ∷ said) rest.0), rw s rest.1)

-- a bank that starts empty answers as the table does, whichever way its batches come
pub either_history : (cs es : List Call) → All Made cs → Alike cs es
    → answers slots slot_limit batch_limit empty_bank.slots es ≡ answers table slot_limit batch_limit (replicate slot_limit none) cs
either_history cs es made h = sym (same_history slots slot_limit batch_limit empty_bank.slots cs es h).0 ∙ bank_history cs made
