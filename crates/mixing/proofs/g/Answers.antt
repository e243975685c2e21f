-- `mixing::g` meets its contract. Its eight lines are the definition's, on four words.
-- Assumes nothing.
use mathlib.Core.Path.{◌≡◌, ◌∙◌}
use mathlib.Core.List.{List}
use Prim.Native.Nat.{ℕ, ◌+◌, ◌%◌, ◌^◌}
use native.Mathlib.Nat.{mod-add-mod}
use native.Mathlib.Omega.{arith}
use borrow.Author.Rules.{rules}
use lib.Dec.{lit<}
use lib.ListN.{length}
use Rattle.std.proofs.lemmas.Nat.{xor_lt}
use Rattle.definitions.specs.Words.{◌!◌}
use Rattle.definitions.specs.Family.{BLAKE2b}
use Rattle.definitions.specs.Compress.{G}
use Rattle.laws_words.proofs.Lists.{by_front}
use Rattle.laws_words.proofs.Rotate.{rot_is}
use Rattle.mixing.proofs.g.Goals as goal
use Rattle.mixing.proofs.g.Goals.{Start}

four : (c : Start) → length c.args.quad ≡ 4
four c = search rules

pub returns : goal.returns
unfolding G
returns c =
    let q = c.args.quad in
    let a = q ! 0 in
    let b = q ! 1 in
    let a1 = ((a + b) % 2 ^ 64 + c.args.x) % 2 ^ 64 in
    let d1 = c.rotate_right-d1.result in
    let c1 = (q ! 2 + d1) % 2 ^ 64 in
    let b1 = c.rotate_right-b1.result in
    let a2 = ((a1 + b1) % 2 ^ 64 + c.args.y) % 2 ^ 64 in
    let d2 = c.rotate_right-d2.result in
    let c2 = (c1 + d2) % 2 ^ 64 in
    let e0 = c.rotate_right-d1.ensures ∙ rot_is 64 32 (lit< tt) (xor_lt 64 (q ! 3) a1 (omega arith) (omega arith)) in
    let e1 = c.rotate_right-b1.ensures ∙ rot_is 64 24 (lit< tt) (xor_lt 64 b c1 (omega arith) (omega arith)) in
    let e2 = c.rotate_right-d2.ensures ∙ rot_is 64 16 (lit< tt) (xor_lt 64 d1 a2 (omega arith) (omega arith)) in
    let e3 = c.rotate_right-b2.ensures ∙ rot_is 64 63 (lit< tt) (xor_lt 64 b1 c2 (omega arith) (omega arith)) in
    let s1 = mod-add-mod (a + b) (2 ^ 64) c.args.x in
    let s2 = mod-add-mod (a1 + b1) (2 ^ 64) c.args.y in
    by_front 4 (λ (v : List ℕ). G BLAKE2b v 0 1 2 3 c.args.x c.args.y) q (four (goal.at.returns c).Start) cc
