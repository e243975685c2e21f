-- `compression::round` meets its contract: its two halves, on the message words in the order of the row.
-- Assumes nothing.
use mathlib.Core.Path.{◌≡◌, refl, sym, ap, ◌∙◌, subst}
use mathlib.Core.List.{[], ◌++◌}
use mathlib.Core.Logic.{⊎_elim}
use Prim.Native.Nat.{ℕ, ◌+◌, ◌%◌, ◌-◌, ◌<◌}
use native.Mathlib.Nat.{eq-zero-or-pos}
use native.Mathlib.Omega.{arith}
use lib.ListN.{length, get_or, take, get_or-append}
use lib.Seq.{get_or-append-add}
use Rattle.std.proofs.lemmas.List.{get_or-take}
use Rattle.definitions.specs.Family.{BLAKE2b}
use Rattle.definitions.specs.Compress.{SIGMA, row}
use Rattle.definitions.specs.Schedule.{Order}
use Rattle.definitions.proofs.Schedule.{schedule}
use Rattle.laws_words.specs.Halves.{ordered}
use Rattle.laws_words.proofs.Compression.{round_is}
use Rattle.compression.proofs.round.Goals as goal

ten : length SIGMA ≡ 10
unfolding SIGMA
ten = refl

-- the code's table has the first two rows once more, for the last two rounds
rows : (i : ℕ) → i < 12 → get_or (SIGMA ++ take 2 SIGMA) i [] ≡ row i
rows i h =
    let n = ten in
    let first = λ (e : i - 9 ≡ 0).
    let m : i % 10 ≡ i = omega arith in
    get_or-append SIGMA (take 2 SIGMA) [] i (omega arith) ∙ ap (λ (k : ℕ). get_or SIGMA k []) (sym m) in
    let again = λ (p : 0 < i - 9).
    let e : i ≡ length SIGMA + (i - 10) = omega arith in
    let m : i % 10 ≡ i - 10 = omega arith in
    ap (λ (k : ℕ). get_or (SIGMA ++ take 2 SIGMA) k []) e ∙ get_or-append-add SIGMA (take 2 SIGMA) (i - 10) []
    ∙ get_or-take 2 SIGMA (i - 10) [] (omega arith) ∙ ap (λ (k : ℕ). get_or SIGMA k []) (sym m) in
    ⊎_elim first again (eq-zero-or-pos (i - 9))

pub arranged-x-requires : goal.arranged-x-requires
unfolding SIGMA
arranged-x-requires c = subst Order (sym (rows c.args.i c.requires)) (schedule.0 c.args.i c.requires)

pub returns : goal.returns
unfolding SIGMA
returns c =
    let a = c.args in
    let x : c.arranged-x.result ≡ ordered a.m.now (row a.i) = c.arranged-x.ensures ∙ ap (ordered a.m.now) (rows a.i c.requires) in
    let r = round_is BLAKE2b (row a.i) a.m.now a.v in
    cc
