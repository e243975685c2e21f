-- The front of an array in a local, lent by `&` for a lifetime, and the local's room once the lifetime is over: two updates that mention no code.
-- Assumes `Logic`.
use mathlib.Core.Path.{◌≡◌, refl}
use Prim.Native.Nat.{ℕ, zero, suc, ◌+◌}
use mathlib.Core.List.{List, [], ◌∷◌}
use lib.ListN.{length, take, drop as drop_l}
use seplogic.Ra.Ura.{Ura}
use base.Fraction.{full_share}
use mir.Syntax.{Ty, Lifetime, ty_array}
use mir.Val.{Val}
use base.Logic.{ent, sep, emp, emp∗, fst∗, snd∗}
use base.Fml.{Lft, Share, Fml, Incl-refl, fsep, fat, froom, fdead, flent}
use types.Logic.{Logic, sem, lfts}
use types.Kit.{‵, ◌⊛◌, raw, later, ◌$◌, ◌∵◌, !, qed, move, keep, drop, use1, use2, split, rewrite}
use types.Kit.{fsplit, fjoin, fpick, fpack, feq_l, feq_i, await, updating, now as at_once, done}
use types.Tokens.{lent_back}
use types.Share.{arr_parts}
use denote.RattleType.{RattleType}
use denote.Copied.{Copied}
use denote.Memory.{cell_at, lone, part_at, mem, shares, part_of}
use denote.Array.{Array}
use denote.ArrayMemory.{Single, Array-apart, Array-whole}
use denote.Slice.{ShrSlice, Room, slice_val}
use denote.Index.{place, row}
use denote.Lend.{lends_shr_slice}

-- R is Copy
module _ {M : Type 1} {𝓤 : Ura M} (𝓛 : Logic 𝓤) (R : RattleType) (copied : Copied 𝓛 R) where
  -- a row of elements is its first k and those behind them
  open 𝓛 use {H, A}

  cut : (k : ℕ) (xs : List R.Denot) (b o : ℕ)
      → ent 𝓤 (sem 𝓛 (row R full_share xs b o)) (sep 𝓤 (sem 𝓛 (row R full_share (take k xs) b o)) (sem 𝓛 (row R full_share (drop_l k xs) b (place (mem R).size o k))))
  cut zero xs b o = emp∗ 𝓤 (sem 𝓛 (row R full_share xs b o))
  cut (suc k) [] b o = emp∗ 𝓤 (emp 𝓤)
  cut (suc k) (x ∷ xs) b o =
      qed 𝓛 (‵ (part_at R full_share x b o) ∷ ‵ (row R full_share xs b (o + (mem R).size)) ∷ []) ∵ move ! (1 ∷ []) $
      use1 𝓛 (‵ (row R full_share (take k xs) b (o + (mem R).size)) ⊛ ‵ (row R full_share (drop_l k xs) b (place (mem R).size (o + (mem R).size) k))) (cut k xs b (o + (mem R).size)) $ split ! $
      move ! (2 ∷ 0 ∷ []) $ fjoin ! $ done !

  glued : (k : ℕ) (xs : List R.Denot) (b o : ℕ)
      → ent 𝓤 (sep 𝓤 (sem 𝓛 (row R full_share (take k xs) b o)) (sem 𝓛 (row R full_share (drop_l k xs) b (place (mem R).size o k)))) (sem 𝓛 (row R full_share xs b o))
  glued zero xs b o = snd∗ 𝓤 (emp 𝓤) (sem 𝓛 (row R full_share xs b o))
  glued (suc k) [] b o = fst∗ 𝓤 (emp 𝓤) (emp 𝓤)
  glued (suc k) (x ∷ xs) b o =
      qed 𝓛 (‵ (row R full_share (x ∷ take k xs) b o) ∷ ‵ (row R full_share (drop_l k xs) b (place (mem R).size (o + (mem R).size) k)) ∷ []) ∵ fsplit ! $ move ! (1 ∷ 2 ∷ []) $
      use2 𝓛 (‵ (row R full_share xs b (o + (mem R).size))) (glued k xs b (o + (mem R).size)) $ move ! (1 ∷ 0 ∷ []) $ done !

  module _ (n k : ℕ) (xs : List R.Denot) (b o : ℕ) (κ : Lft) where
    abbrev array : Ty
    array = ty_array (lone R.mir) n

    -- what the lender keeps
    abbrev pub Kept : Fml
    Kept = fsep (flent κ ((arr_parts (shares R) (length (take k xs))).part full_share (take k xs) b o)) (row R full_share (drop_l k xs) b (place (mem R).size o k))

    abbrev pub Lent : Lifetime → Fml
    Lent ℓ = (ShrSlice ℓ κ R).own_val (record { ref_ptr = (b, o); now = take k xs }) (slice_val (b, o) (length (take k xs)) ∷ [])

    -- with a token of the lifetime, which comes back
    pub lends_front : Single R.mir → Room R (length (take k xs)) → (ℓ : Lifetime) (v : Val) (q : Share)
        → let token = lfts 𝓛 ((κ, q) ∷ []) in
        ent 𝓤 (sep 𝓤 (sem 𝓛 (fat full_share array b o v)) (sep 𝓤 (sem 𝓛 ((Array R n).own_val xs (v ∷ []))) token))
        (H.⇛ (sep 𝓤 (sem 𝓛 (Lent ℓ)) (sep 𝓤 (sem 𝓛 Kept) token)))
    unfolding part_of
    lends_front one room ℓ v q =
        let token = lfts 𝓛 ((κ, q) ∷ []) in
        qed 𝓛 (‵ (fat full_share array b o v) ∷ ‵ ((Array R n).own_val xs (v ∷ [])) ∷ raw token ∷ []) ∵ updating ! $
        use1 𝓛 (‵ (cell_at full_share (array ∷ []) (v ∷ []) b o)) (𝓛.laws.at_raw full_share array b o v) $ fjoin ! $
        fpack ! (List Val) (λ us. fsep (cell_at full_share (array ∷ []) us b o) ((Array R n).own_val xs us)) (v ∷ []) $
        use1 𝓛 (‵ ((arr_parts (shares R) n).part full_share xs b o)) (Array-apart 𝓛 R full_share one n xs b o) $ fsplit ! $ drop ! $
        use1 𝓛 (‵ (row R full_share (take k xs) b o) ⊛ ‵ (row R full_share (drop_l k xs) b (place (mem R).size o k))) (cut k xs b o) $ split ! $
        feq_i ! ℕ (length (take k xs)) (length (take k xs)) refl $ fjoin ! $ move ! (0 ∷ 2 ∷ []) $
        use2 𝓛 (later ((‵ (Lent ℓ) ⊛ ‵ (flent κ ((arr_parts (shares R) (length (take k xs))).part full_share (take k xs) b o))) ⊛ raw token))
        (lends_shr_slice 𝓛 R ℓ κ full_share (take k xs) b o room κ (copied.shares full_share κ) ((κ, q) ∷ []) (Incl-refl κ) (Incl-refl κ)) $ await ! tt $ split ! $
        split ! $ move ! (1 ∷ 3 ∷ []) $ fjoin ! $ move ! (1 ∷ 0 ∷ 2 ∷ []) $ at_once ! $ keep ! (0 ∷ 1 ∷ 2 ∷ []) $ done !

    pub room_back : length xs ≡ n → ent 𝓤 (sep 𝓤 (A.dead κ) (sem 𝓛 Kept)) (H.⇛ (sem 𝓛 (froom array b o)))
    unfolding part_of
    room_back long =
        qed 𝓛 (‵ (fdead κ) ∷ ‵ Kept ∷ []) ∵ updating ! $ move ! (1 ∷ []) $ fsplit ! $ move ! (2 ∷ 0 ∷ []) $ lent_back ! tt $ fsplit ! $ drop ! $
        use2 𝓛 (‵ (row R full_share xs b o)) (glued k xs b o) $ feq_i ! ℕ (length xs) n long $ fjoin ! $
        use1 𝓛 (‵ (part_at (Array R n) full_share xs b o)) (Array-whole 𝓛 R full_share n xs b o) $
        fpick ! (λ vs. fsplit ! $ move ! (1 ∷ []) $ fpick ! (λ us. fsplit ! $ fsplit ! $ feq_l ! (λ e. rewrite ! 2 (λ (ws : List Val). ‵ (cell_at full_share (array ∷ []) ws b o)) e refl $
        move ! (2 ∷ []) $
        use1 𝓛 (‵ (fat full_share array b o _)) (𝓛.laws.raw_at full_share array b o _) $ use1 𝓛 (‵ (froom array b o)) (𝓛.laws.at_room array b o _) $ at_once ! $ keep ! (0 ∷ []) $ done !)))
