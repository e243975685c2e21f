-- `portable::blocks::compress1_loop` meets its contract. The loop's invariant: k blocks have gone, and block k is there.
-- Assumes nothing.
use mathlib.Core.Path.{◌≡◌, refl, sym, ap, ◌∙◌}
use mathlib.Core.Bool.{Bool, true, false, ◌&&◌}
use Prim.Native.Nat.{ℕ, ◌+◌, ◌*◌, ◌/◌, ◌%◌, ◌^◌, ◌-◌, ◌<◌, ◌≤◌, min}
use native.Mathlib.Omega.{arith}
use borrow.Author.Tests.{leb-true, leb-false}
use lib.Dec.{leb}
use lib.ListN.{length, drop, length-drop}
use Rattle.definitions.specs.Family.{BLAKE2b}
use Rattle.definitions.specs.Compress.{F}
use Rattle.definitions.specs.Hash.{words}
use Rattle.laws_words.proofs.Bytes.{length_zeros}
use Rattle.laws_blocks.specs.Blocks.{through_blocks}
use Rattle.laws_blocks.proofs.Turns.{Turned, ready, begun, block_long, count_fits, turned}
use Rattle.guts.specs.declared.FinalFacts.{FinalFacts}
use Rattle.guts.specs.Guts.{finalizes, is_last_node}
use Rattle.portable.proofs.Strides.{row_wide}
use Rattle.portable.proofs.blocks.compress1_loop.Goals as goal
use Rattle.portable.proofs.blocks.compress1_loop.Goals.{After-compress_block-local_words, After-final_facts-facts, After-padded_blockbytes-row, then-fin_last_block, else-fin_last_block, then-last, else-last, then-last-2, else-last-2}

facts : (c : After-final_facts-facts)
    → let left = length (drop c.loop-offset.offset c.args.input.now) in
    (c.final_facts-facts.result.len ≡ min BLAKE2b.bb left) × (c.final_facts-facts.result.may_finalize ≡ leb left c.padded_blockbytes-row.result)
facts c = let e = c.final_facts-facts.ensures in (ap (λ (r : FinalFacts). r.len) e, ap (λ (r : FinalFacts). r.may_finalize) e)

wide : (c : After-padded_blockbytes-row) → BLAKE2b.bb ≤ c.padded_blockbytes-row.result
wide c = rw c.padded_blockbytes-row.ensures (row_wide c.args.stride)

pub loop-offset-init : goal.loop-offset-init
loop-offset-init c =
    let long = ap length c.zeroed-buf.ensures ∙ length_zeros BLAKE2b.bb in
    record {
      within = omega arith;
      reached = begun (ready (omega arith) (wide (goal.at.loop-offset-init c).After-padded_blockbytes-row) c.zeroed-buf.result long c.final_offset.ensures c.pad_final_block.ensures) _ _;
    }

and_true : {a x : Bool} (b : Bool) → a ≡ true → x ≡ b → x ≡ (a && b)
and_true b t e = e ∙ ap (λ (p : Bool). p && b) (sym t)

and_false : {a x : Bool} (b : Bool) → a ≡ false → x ≡ a → x ≡ (a && b)
and_false b f e = e ∙ f ∙ ap (λ (p : Bool). p && b) (sym f)

-- the flags: that a run finalizes at the last node, and the two of a block, which only the last one has
node : (c : After-compress_block-local_words) → c.if-fin_last_block.fin_last_node ≡ (finalizes c.args.finalize && is_last_node c.args.last_node)
node c =
    let fin = c.yes-fin_last_block.ensures in
    elim c.if-fin_last_block.branch [
      | then-fin_last_block w ↦ and_true _ (sym fin ∙ w.if-fin_last_block.true) (w.fin_last_node-is ∙ w.yes-fin_last_node.ensures)
      | else-fin_last_block w ↦ and_false _ (sym fin ∙ w.if-fin_last_block.false) (w.fin_last_node-is ∙ fin)
    ]

block_flag : (c : After-compress_block-local_words) → c.if-last.compress_block ≡ (c.final_facts-facts.result.may_finalize && c.yes-fin_last_block.result)
block_flag c = elim c.if-last.branch [ then-last w ↦ and_true _ w.if-last.true w.compress_block-is | else-last w ↦ and_false _ w.if-last.false w.compress_block-is ]

node_flag : (c : After-compress_block-local_words) → c.if-last-2.compress_block ≡ (c.final_facts-facts.result.may_finalize && c.if-fin_last_block.fin_last_node)
node_flag c =
    elim c.if-last-2.branch [ then-last-2 w ↦ and_true _ w.if-last-2.true w.compress_block-is | else-last-2 w ↦ and_false _ w.if-last-2.false w.compress_block-is ]

-- the two words of a count
two_words : (t : ℕ) → t ≡ t % 2 ^ 64 + t / 2 ^ 64 * 2 ^ 64
two_words t = omega arith

-- the turn that a compression ends
turn : (c : After-compress_block-local_words)
    → Turned BLAKE2b c.args.input.now c.padded_blockbytes-row.result c.pad_final_block.new.buffer
    c.args.count c.args.words c.yes-fin_last_block.result c.if-fin_last_block.fin_last_node
    c.final_facts-facts.result.may_finalize c.compress_block-local_words.result (c.loop-offset.local_count + c.final_facts-facts.result.len) c.loop-offset.offset
turn c =
    let e = facts (goal.at.After-compress_block-local_words c).After-final_facts-facts in
    let l = c.loop-offset in
    let at_count = c.compress_block-local_words.ensures
    ∙ ap (λ (t : ℕ). F BLAKE2b l.local_words (words BLAKE2b 16 c.final_block.result.now) t c.if-last.compress_block c.if-last-2.compress_block)
    (c.from.ensures ∙ two_words (l.local_count + c.final_facts-facts.result.len)) in
    turned l.invariant.reached _ _ e.0 e.1 c.final_block.ensures refl refl (block_flag c) (node_flag c) at_count

true_if : (b : Bool) → (b ≡ false → ⊥) → b ≡ true
true_if true f = refl
true_if false f = absurd (f refl)

false_if : (b : Bool) → (b ≡ true → ⊥) → b ≡ false
false_if true f = absurd (f refl)
false_if false f = refl

-- the last block is the one behind which no other begins below the end
last : (c : After-compress_block-local_words) → c.max-end.result - c.loop-offset.offset ≤ c.padded_blockbytes-row.result → c.final_facts-facts.result.may_finalize ≡ true
last c h =
    let d = c.args.input.now in
    let o = c.loop-offset.offset in
    let e = (facts (goal.at.After-compress_block-local_words c).After-final_facts-facts).1 in
    true_if _ (λ f. let l = leb-false (length (drop o d)) c.padded_blockbytes-row.result (sym e ∙ f) in omega (arith, length-drop o d))

not_last : (c : After-compress_block-local_words) → c.loop-offset.offset + c.padded_blockbytes-row.result < c.max-end.result → c.final_facts-facts.result.may_finalize ≡ false
not_last c h =
    let d = c.args.input.now in
    let o = c.loop-offset.offset in
    let w = wide (goal.at.After-compress_block-local_words c).After-padded_blockbytes-row in
    let e = (facts (goal.at.After-compress_block-local_words c).After-final_facts-facts).1 in
    false_if _ (λ t. let l = leb-true (length (drop o d)) c.padded_blockbytes-row.result (sym e ∙ t) in omega (arith, length-drop o d))

pub returns-after-last-2 : goal.returns-after-last-2
returns-after-last-2 c =
    let a = c.args in
    let t = (goal.at.returns-after-last-2 c).After-compress_block-local_words in
    (turn t).ends (last t (omega arith))
    ∙ (λ i. through_blocks BLAKE2b (c.padded_blockbytes-row.ensures i) a.words a.count (c.yes-fin_last_block.ensures i) (node t i) a.input.now)

pub loop-offset-preserved : goal.loop-offset-preserved
loop-offset-preserved c =
    let t = (goal.at.loop-offset-preserved c).After-compress_block-local_words in
    let more : c.loop-offset.offset + c.padded_blockbytes-row.result < c.max-end.result = omega arith in
    record { within = more; reached = (turn t).goes_on (not_last t more) }

pub compress_block-local_words-requires : goal.compress_block-local_words-requires
compress_block-local_words-requires c = block_long c.loop-offset.invariant.reached c.final_block.ensures

pub overflow_add-local_count : goal.overflow_add-local_count
overflow_add-local_count c = record { fits = count_fits c.loop-offset.invariant.reached (facts c).0 (2 ^ 64) c.requires }
