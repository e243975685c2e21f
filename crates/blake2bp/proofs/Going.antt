-- Rows that go, any number of them: what the code makes of all that is there.
-- Assumes nothing.
use mathlib.Core.Path.{◌≡◌, refl, sym, ap, ◌∙◌}
use mathlib.Core.List.{List}
use Prim.Native.Nat.{ℕ, ◌+◌, ◌-◌, ◌*◌, ◌<◌, ◌≤◌}
use native.Mathlib.Omega.{arith}
use lib.ListN.{length, take, drop, length-drop, take-append-drop}
use lib.Seq.{paste, length-take-le}
use Rattle.definitions.specs.Words.{pad}
use Rattle.laws_words.specs.Bytes.{zeros}
use Rattle.laws_words.proofs.Stores.{stored_padded}
use Rattle.laws_states.proofs.Steps.{kept}
use Rattle.members.proofs.Moves.{parts}
use Rattle.blake2bp_leaves.specs.Sizes.{blockbytes, rowbytes}
use Rattle.blake2bp_leaves.specs.declared.leaves.Leaf.{Leaf}
use Rattle.blake2bp.specs.Sizes.{roombytes}
use Rattle.blake2bp.specs.State.{core, holding, machine, keeper, moved}
use Rattle.blake2bp.specs.declared.state.State.{State}
use Rattle.blake2bp.proofs.States.{keeper_laws, lawful}

-- k rows of the bytes all go, and the rest waits, with zeros behind it
pub rows_gone : (s : State) (all : List ℕ) (k : ℕ) → 0 < k → rowbytes * k ≤ length all → {l : List Leaf} {b : List ℕ} (rest : List ℕ) → rest ≡ drop (rowbytes * k) all
    → l ≡ machine.run s.leaves s.count.0 (take (rowbytes * k) all) k → b ≡ pad roombytes rest
    → parts keeper keeper_laws s l (s.count.0 + blockbytes * k) b (length rest) ≡ moved s all k
rows_gone s all k some there {l} {b} rest is e f =
    let gone = rowbytes * k in
    let front : length (take gone all) ≡ gone = length-take-le gone all there in
    let ran : l ≡ machine.run s.leaves s.count.0 all k =
    e ∙ sym (lawful.run_front s.leaves s.count.0 (take gone all) (drop gone all) k (omega arith))
    ∙ ap (λ (d : List ℕ). machine.run s.leaves s.count.0 d k) (take-append-drop gone all) in
    let stored : b ≡ paste (zeros roombytes) 0 (drop gone all) (length (drop gone all)) = f ∙ ap (pad roombytes) is ∙ sym (stored_padded roombytes (drop gone all) refl refl) in
    let left : length rest ≡ length all - gone = ap length is ∙ length-drop gone all in
    (λ i. parts keeper keeper_laws s l (s.count.0 + blockbytes * k) b (left i)) ∙ ap (holding s) (kept machine lawful (core s) all l b k some ran stored)
