-- What a job that holds its input owns: its work and its input, and what is lent of it to a step.
-- A plain field owns facts alone, so that what a struct of them owns is made anew of its facts. Assumes `Logic`.
use mathlib.Core.Path.{◌≡◌}
use mathlib.Core.List.{List, [], ◌∷◌}
use Prim.Native.Nat.{ℕ}
use lib.ListN.{length}
use seplogic.Ra.Ura.{Ura}
use mir.Syntax.{named, w8, w64}
use mir.Val.{Val}
use base.Logic.{SProp, ent, sep}
use base.Fml.{Lft, Share, Fml, ftrue, flft}
use types.Logic.{Logic, sem}
use types.Kit.{Item, ‵, raw, ◌⊛◌, ⋆, given, ◌$◌, ◌∵◌, !, qed, by, move, drop, use1, use2, split, learn, fsplit, fjoin, frame, done}
use denote.Array.{Array, Array-Makes}
use denote.RattleType.{RattleType, owns}
use denote.Laws.{Is}
use denote.Plain.{uint_Makes, bool_Makes, uint_row_laws}
use denote.Builtin.{u8, u64, bool}
use denote.Ref.{Bor, NamedLft}
use denote.Signature.{named_lft}
use denote.Slice.{ShrSlice, shr_slice_vals, shr_slice_copy}
use denote.Steps.{nothing, owned}
use denote.Struct.Declared.{Declared, fields, row}
use denote.Struct.Laws as LL
use denote.Struct.Rest.{all_own, rest, own_open, own_out, own_shut}
use denote.Struct.Struct.{Plains}
use denote.Struct.Values.{Values}
use Rattle.blake2b_state.specs.Sizes.{blockbytes}
use Rattle.blake2b.specs.declared.params.Params.{Params}
use Rattle.blake2b.specs.contracts.params.Params as P
use Rattle.blake2b.proofs.params.Params.TheLaws as P'
use Rattle.many_work.specs.declared.work.Work.{Work}
use Rattle.many_work.specs.contracts.work.Work as S
use Rattle.many_work.proofs.work.Work.TheLaws as S'
use Rattle.many_held.specs.HeldJob.{work_of, holding}
use Rattle.many_held.specs.declared.held_job.HashManyJob.{HashManyJob}
use Rattle.many_held.specs.contracts.held_job.HashManyJob as T
use Rattle.many_held.proofs.held_job.HashManyJob.TheLaws as T'

-- a lifetime, named by its place in a signature or by nothing, as in a local of a body
module _ (α : NamedLft) where
  abbrev pub Slice : RattleType
  Slice = ShrSlice α.mir α.lft u8

  abbrev pub job_val : HashManyJob → Val
  job_val j = LL.val (T.the_type α) (T'.the_laws α) j

  module _ (j : HashManyJob) (is : Is (T.the_row α) j (job_val j ∷ [])) where
    pub is_work : Is S.the_row (work_of j) (LL.vals S.the_type S'.the_laws (work_of j))
    is_work =
        (LL.owed (T.the_type α) (T'.the_laws α) j _ is).0

  module _ (w : Work) (x : Bor (List ℕ)) (is-w : Is S.the_row w (LL.vals S.the_type S'.the_laws w)) (is_x : Is Slice x (shr_slice_vals x)) where
    pub is_held : Is (T.the_row α) (holding w x) (job_val (holding w x) ∷ [])
    is_held =
        LL.owes (T.the_type α) (T'.the_laws α) (holding w x) (is-w, (is_x, tt))

module _ {M : Type 1} {𝓤 : Ura M} (𝓛 : Logic 𝓤) (κ : Lft) where
  abbrev pub α : NamedLft
  α = named_lft 1 0 tt (κ, tt)

  abbrev D : Declared
  D = T.the_type α

  abbrev L : LL.Laws D
  L = T'.the_laws α

  abbrev pub JobOwn : HashManyJob → Fml
  JobOwn j = (T.the_row α).own_val j (job_val α j ∷ [])

  abbrev pub Token : Share → Item 𝓤
  Token q = ‵ (flft κ q) ⊛ ‵ ftrue

  abbrev pub InputOwn : Bor (List ℕ) → Fml
  InputOwn x = (Slice α).own_val x (shr_slice_vals x)

  -- what a function was handed holds what the input owns: beside parameters, and in a job
  module _ (q : Share) where
    abbrev pub GivenOwns : Params → Bor (List ℕ) → Fml
    GivenOwns p x = owns (P.the_row ∷ Slice α ∷ []) (p, (x, tt)) (LL.vals P.the_type P'.the_laws p, (shr_slice_vals x, tt))

    pub beside : (p : Params) (x : Bor (List ℕ)) → ent 𝓤 (⋆ 𝓛 (Token q ∷ ‵ (GivenOwns p x) ∷ [])) (⋆ 𝓛 (Token q ∷ ‵ (InputOwn x) ∷ []))
    beside p x = qed 𝓛 (Token q ∷ ‵ (GivenOwns p x) ∷ []) ∵ move ! (1 ∷ []) $ fsplit ! $ drop ! $ fsplit ! $ move ! (1 ∷ []) $ drop ! $ move ! (1 ∷ 0 ∷ []) $ done !

    pub inside : (j : HashManyJob) → ent 𝓤 (⋆ 𝓛 (Token q ∷ ‵ (owns (T.the_row α ∷ []) (j, tt) (job_val α j ∷ [], tt)) ∷ [])) (⋆ 𝓛 (Token q ∷ ‵ (InputOwn j.input) ∷ []))
    inside j =
        let parts : Values D.parts = (j.work, (j.input, tt)) in
        qed 𝓛 (Token q ∷ ‵ (owns (T.the_row α ∷ []) (j, tt) (job_val α j ∷ [], tt)) ∷ []) ∵ move ! (1 ∷ []) $ fsplit ! $ move ! (1 ∷ []) $ drop ! $
        use1 𝓛 (given (job_val α j ∷ [] ≡ job_val α j ∷ []) (‵ (all_own D.parts L parts))) (own_open 𝓛 D L parts (job_val α j)) $ learn ! (λ _.
        use1 𝓛 (‵ (InputOwn j.input) ⊛ ‵ (rest D.parts L 1 parts)) (own_out 𝓛 D.parts L 1 parts) $ split ! $ move ! (1 ∷ []) $ drop ! $ move ! (1 ∷ 0 ∷ []) $ done !)

    -- plain data and an input are lent to a step, and what the input owns is kept: a `&` is Copy, and what plain data owns is made anew
    module _ (N : Declared) (plain : Plains (fields N)) (l : LL.Laws N) (d : N.D) (is : Is (row N) d (LL.vals N l d)) (x : Bor (List ℕ)) where
      abbrev pub StepOwns : Fml
      StepOwns = owns (row N ∷ Slice α ∷ []) (d, (x, tt)) (LL.vals N l d, (shr_slice_vals x, tt))

      pub lent : {Q : SProp 𝓤} → ent 𝓤 (⋆ 𝓛 (Token q ∷ ‵ StepOwns ∷ [])) Q → ent 𝓤 (⋆ 𝓛 (Token q ∷ ‵ (InputOwn x) ∷ [])) (sep 𝓤 Q (sem 𝓛 (InputOwn x)))
      lent {Q} asked =
          qed 𝓛 (Token q ∷ ‵ (InputOwn x) ∷ []) ∵ move ! (1 ∷ []) $ use1 𝓛 (‵ (InputOwn x) ⊛ ‵ (InputOwn x)) ((shr_slice_copy 𝓛 (named 0) κ u8 (uint_row_laws w8)).twice x (shr_slice_vals x)) $ split ! $
          -- [what the input owns, twice; the token]
          nothing ! $ move ! (1 ∷ 0 ∷ []) $ fjoin ! $ owned ! (row N) (Is (row N)) (LL.makes N plain 𝓛) d _ is $ fjoin ! $ move ! (2 ∷ 0 ∷ []) $ use2 𝓛 (raw Q) asked $ frame ! $ done !

-- a key block has its full size
pub whole_block : (p : Params) → Is P.the_row p (LL.vals P.the_type P'.the_laws p) → length p.key_block ≡ blockbytes
whole_block p is = (LL.owed P.the_type P'.the_laws p _ is).1.1.0.1.0.1
