-- The state of no message bytes, as the code makes it, and what its parameters owe: the row of key blocks, and the paper's tree.
-- Assumes nothing.
use mathlib.Core.Path.{◌≡◌, refl, sym, ap, ◌∙◌}
use mathlib.Core.Bool.{Bool}
use mathlib.Core.List.{List, [], ◌∷◌, map}
use Prim.Native.Nat.{ℕ, ◌<◌, ◌≤◌}
use native.Mathlib.Omega.{arith}
use lib.Dec.{leb}
use lib.ListN.{length}
use lib.Seq.{length-take-le}
use Rattle.definitions.specs.Words.{pad}
use Rattle.definitions.specs.Family.{BLAKE2b}
use Rattle.laws_states.specs.Leaves.{row_of, leaf_starts, root_start}
use Rattle.laws_states.proofs.Trees.{row_some, row_none}
use Rattle.members.specs.Keeper.{key_row}
use Rattle.members.proofs.Laws.{Begun}
use Rattle.members.proofs.Closings.{length_key_row, tree_digest}
use Rattle.blake2bp_leaves.specs.Sizes.{degree, blockbytes}
use Rattle.blake2bp_leaves.specs.Leaves.{leaf_of, words_of, on_leaf}
use Rattle.blake2bp_leaves.specs.declared.leaves.Leaf.{Leaf}
use Rattle.blake2bp_leaves.proofs.Turns.{words_on_leaf}
use Rattle.blake2bp.specs.Sizes.{keybytes, roombytes}
use Rattle.blake2bp.specs.Params.{key_of}
use Rattle.blake2bp.specs.State.{front, key_bytes, bounds, fresh, member}
use Rattle.blake2bp.specs.declared.params.Params.{Params}
use Rattle.blake2bp.specs.declared.state.State.{State}
use Rattle.blake2bp.proofs.Cleaned.{Good}
use Rattle.blake2bp.proofs.Setters.{digest_asked, key_short}

pub leaf_words : (ws : List (List ℕ)) → map words_of (map leaf_of ws) ≡ ws
leaf_words [] = refl
leaf_words (w ∷ ws) = ap (λ (l : List (List ℕ)). w ∷ l) (leaf_words ws)

module _ (p : Params) (whole : length p.key ≡ keybytes) (short : p.key_length ≤ keybytes) where
  pub length_key : length (key_of p) ≡ p.key_length
  length_key = length-take-le p.key_length p.key (omega arith)

  pub key_fits : length (key_of p) ≤ blockbytes
  key_fits = let l = length_key in omega arith

  pub front_keyed : 0 < p.key_length → front p ≡ row_of degree (pad blockbytes (key_of p))
  front_keyed h = row_some BLAKE2b (omega arith) degree (omega arith) (key_of p) (rw length_key h)

  pub front_plain : p.key_length ≤ 0 → front p ≡ []
  front_plain h = row_none BLAKE2b (omega arith) degree (omega arith) (key_of p) [] (length_key ∙ omega arith)

  pub length_front : length (front p) ≡ key_bytes p
  length_front = length_key_row BLAKE2b (omega arith) degree (omega arith) (key_of p) p.key_length length_key key_fits

  -- the state of no message bytes, as the code makes it
  module _ {ls : List Leaf} {w : List ℕ} (leaves : ls ≡ map leaf_of (leaf_starts BLAKE2b degree p.hash_length p.key_length))
      (root : w ≡ root_start BLAKE2b degree p.hash_length p.key_length) where
    abbrev begin : List ℕ → ℕ → Bool → State
    begin b n keyed = record { leaves = ls; root_words = w; buf = b; buf_len = n; count = record { 0 = 0 }; hash_length = p.hash_length; is_keyed = keyed }

    -- with the front in its buffer
    pub begins : {b : List ℕ} {n : ℕ} {keyed : Bool} → b ≡ pad roombytes (front p) → keyed ≡ leb 1 p.key_length → n ≡ key_row bounds keyed → begin b n keyed ≡ fresh p
    begins e f g = λ i. record {
      leaves = leaves i;
      root_words = root i;
      buf = e i;
      buf_len = (g ∙ ap (key_row bounds) f ∙ sym length_front) i;
      count = record { 0 = 0 };
      hash_length = p.hash_length;
      is_keyed = f i;
    }

-- what good parameters owe a state
pub begun : (p : Params) → Good p → Begun member p
begun p good =
    let d = p.hash_length in
    let short = key_short p good.ranged in
    let k = length_key p good.whole short in
    let starts = leaf_words (leaf_starts BLAKE2b degree d p.key_length) in
    record {
      good = good.ranged;
      asked = digest_asked p good.ranged;
      front_is = length_front p good.whole short;
      ahead_is = refl;
      digest_is = tree_digest BLAKE2b (omega arith) degree (omega arith) words_of on_leaf words_on_leaf d (key_of p) p.key_length k (key_fits p good.whole short)
          (fresh p).leaves starts;
    }
