-- What every walk shares: the machine value of what a call answered, a call of a function whose promise is a fact of its result, and the way from a walk to the function's theorem.
-- Assumes `Logic`.
use mathlib.Core.Path.{◌≡◌, ap}
use Prim.Native.Nat.{ℕ}
use mathlib.Core.List.{List, [], ◌∷◌}
use seplogic.Ra.Ura.{Ura}
use mir.Syntax.{Callee, Fn, Place, Opd as Operand, Body, seq, call}
use mir.Val.{Val}
use base.Logic.{SProp, ent, sep, emp, via, ex_e, snd∗, emp∗, mono∗, comm∗, id⊢}
use prog.Model.{Model}
use prog.Routine.{Env as Names}
use prog.Wp.{Env, Loops, WpFn, Tables, Closed}
use types.Logic.{Logic, sem}
use contract.Lifetimes.{Lfts, Shares, AllOutlive}
use contract.Monad.{fact}
use contract.Running.{Running, tables, tables_of}
use sound.WpLaws.{fm_of, WpFn-mono}
use types.Kit.{Item, ‵, raw, ◌⊛◌, ⋆, some, later, Post, runs, lands, Seq, ◌$◌, ◌∵◌, !, qed, move, use0, use1, split, join, pick, await, suffices, done}
use types.Run.{Opds}
use denote.RattleType.{RattleType, Denots, Valss, flat}
use denote.Laws.{Is, Are, Ises, Spells, Tellss, valss, shows}
use denote.Signature.{Slot, type_at, types_at}
use denote.Steps.{heard, peeks, only}
use denote.Struct.Declared.{Declared, row}
use denote.Struct.Laws as LL
use denote.Triple.Statement.{Contract, Triple}
use denote.Triple.Call.{calls_at}
use denote.Triple.Table.{entered}
use denote.Triple.End.{Kepts, Fins}
use denote.Triple.Entry.{Args, Res, alive, on_entry}
use denote.Triple.Spec.{Meets, triple_of}
use denote.Triple.Clauses.{Clauses, Ended, Lasts, at_exit, lasts, ensured, closing}
use denote.Triple.Walked.{Stays, stay_dropped, has_of, fits_of, walk_of, Silent, Goes-dropped, AllGo, ends_at, walked, walk_Meets}

-- a declared value whose machine value a call answered has the machine value that its fields spell
module _ (T : Declared) (L : LL.Laws T) (d : T.D) (u : Val) (is : Is (row T) d (u ∷ [])) where
  pub spelled : u ≡ LL.val T L d
  spelled = ap only (LL.tells T L d (u ∷ []) is)

  pub is_spelled : Is (row T) d (LL.vals T L d)
  is_spelled = LL.owes T L d (LL.owed T L d (u ∷ []) is)

-- the contract that a call cites
abbrev pub contract_of : {M : Type 1} {𝓤 : Ura M} (𝓛 : Logic 𝓤) (T : Ended) → Clauses 𝓤 T → Contract 𝓤
contract_of 𝓛 T c = triple_of 𝓛 T.signature (closing 𝓛 T c)

-- nothing is asked of the arguments
pub asks_nothing : {M : Type 1} (𝓤 : Ura M) {P Q : SProp 𝓤} → ent 𝓤 P Q → ent 𝓤 P (sep 𝓤 Q (emp 𝓤))
asks_nothing 𝓤 {P} {Q} h = via 𝓤 Q h (via 𝓤 (sep 𝓤 (emp 𝓤) Q) (emp∗ 𝓤 Q) (comm∗ 𝓤 (emp 𝓤) Q))

module _ {M : Type 1} {𝓤 : Ura M} {𝓛 : Logic 𝓤} {K : Type 0} {Γ : List (Item 𝓤)} {E : Env 𝓤 𝓛.H} {Λ : Loops 𝓤 𝓛.H} {q : Post 𝓤 𝓛.H} {f : Callee} {xs : List Operand}
    {d : Place} {rest : Body} (T : Ended) (c : Clauses 𝓤 T) where
  -- what the callee promises is learned, its result's machine value is about to land, what the result owns is had, and the tokens are back
  open 𝓛 use {H}

  pub calling : K → (𝓣 : Tables 𝓤 H) → Triple 𝓤 (𝓣.C f) (contract_of 𝓛 T c) → (x : (contract_of 𝓛 T c).Ghost) (φ : Res T.signature x.0.0 → Type 0)
      → ((r : Res T.signature x.0.0) (ws : Lasts T x.0.0 x.0.3) → ent 𝓤 ((c x.0.0 x.0.3).ensures x.1 r (at_exit T x.0.0 x.0.3 ws)) (fact 𝓤 (φ r)))
      → Opds K 𝓛 (raw ((contract_of 𝓛 T c).pre x) ∷ Γ) E xs ((contract_of 𝓛 T c).args x)
      → ((r : Res T.signature x.0.0) (u : Val) → φ r → Is (type_at T.signature.result x.0.0) r (u ∷ [])
      → Seq K 𝓛 (‵ ((type_at T.signature.result x.0.0).own_val r (u ∷ [])) ∷ raw (alive 𝓛 T.signature x.0.0 x.0.1) ∷ Γ) (lands 𝓣.C Λ E d u rest q))
      → Seq K 𝓛 (raw ((contract_of 𝓛 T c).pre x) ∷ Γ) (runs 𝓣.C Λ E (seq (call f xs d) rest) q)
  calling t 𝓣 known x φ said os k =
      let R : RattleType = type_at T.signature.result x.0.0 in
      calls_at t (fm_of 𝓤 H 𝓛.laws 𝓣) (contract_of 𝓛 T c) known x os (λ u.
      use1 𝓛 (later (some (λ (r : R.Denot). (raw (alive 𝓛 T.signature x.0.0 x.0.1) ⊛ ‵ (R.own_val r (u ∷ []))) ⊛ raw (ensured 𝓛 T c x.0.0 x.0.3 x.1 r))))
      (id⊢ 𝓤 _) $ await t tt $ pick t (λ r. split t $ move t (1 ∷ []) $
      use1 𝓛 (raw (fact 𝓤 (φ r))) (ex_e 𝓤 _ (λ ws. via 𝓤 _ (snd∗ 𝓤 (sem 𝓛 (lasts T x.0.0 x.0.3 ws)) _) (said r ws))) $
      heard t (φ r) (λ e. split t $ move t (1 ∷ []) $ peeks t R (Is R) (shows 𝓛 R) r (u ∷ []) (λ is. k r u e is))))

-- where the parameters are plain data or lent by `&`, nothing has to be had of them at exit
abbrev pub nones : {n : ℕ} (ss : List (Slot n)) (ks : Kepts ss) → Stays ss ks
nones [] ks = tt
nones (s ∷ ss) ks = (stay_dropped s ks.0, nones ss ks.1)

module _ {M : Type 1} {𝓤 : Ura M} (𝓛 : Logic 𝓤) where
  -- nothing is said of any of them there, which is a `refl` each
  open 𝓛 use {H}

  abbrev pub Silents : {n : ℕ} (ss : List (Slot n)) → Kepts ss → Type 1
  Silents [] ks = Unit {1}
  Silents {n} (s ∷ ss) ks = Silent 𝓛 n s ks.0 × Silents ss ks.1

  nones_go : {n : ℕ} (ss : List (Slot n)) (ks : Kepts ss) → Silents ss ks → AllGo 𝓛 n ss ks (nones ss ks)
  nones_go [] ks sil = tt
  nones_go {n} (s ∷ ss) ks sil = (Goes-dropped 𝓛 n s ks.0 sil.0, nones_go ss ks.1 sil.1)

  nones_fit : {n : ℕ} (κs : Lfts n) (ss : List (Slot n)) (ks : Kepts ss) (a : Denots (types_at ss κs)) (ws : Fins κs ss ks a) → fits_of κs ss ks (nones ss ks) a ws
  nones_fit κs [] ks a ws = tt
  nones_fit κs (s ∷ ss) ks a ws = (tt, nones_fit κs ss ks.1 a.1 ws.1)

  nones_had : {n : ℕ} (κs : Lfts n) (ss : List (Slot n)) (ks : Kepts ss) (a : Denots (types_at ss κs)) (ws : Fins κs ss ks a) (vss : Valss (types_at ss κs))
      → ent 𝓤 (emp 𝓤) (sem 𝓛 (has_of κs ss ks (nones ss ks) a ws vss))
  nones_had κs [] ks a ws vss = id⊢ 𝓤 (emp 𝓤)
  nones_had κs (s ∷ ss) ks a ws vss = via 𝓤 (sep 𝓤 (emp 𝓤) (emp 𝓤)) (emp∗ 𝓤 (emp 𝓤)) (mono∗ 𝓤 (id⊢ 𝓤 (emp 𝓤)) (nones_had κs ss ks.1 a.1 ws.1 vss.1))

  module _ (T : Ended) (c : Clauses 𝓤 T) where
    -- what a walk ends in
    abbrev pub Ends : Contract 𝓤
    Ends = walk_of 𝓛 T (nones T.signature.params T.kept) c

    -- it ends there once the tokens are back and what the result owns is had, at a result that meets the clause
    pub ends : (y : Ends.Ghost) (u : Val) (r : Res T.signature y.0.0) (ws : Lasts T y.0.0 y.0.3)
        → ent 𝓤 (emp 𝓤) ((c y.0.0 y.0.3).ensures y.1 r (at_exit T y.0.0 y.0.3 ws))
        → ent 𝓤 (⋆ 𝓛 (‵ ((type_at T.signature.result y.0.0).own_val r (u ∷ [])) ∷ raw (alive 𝓛 T.signature y.0.0 y.0.1) ∷ [])) (Ends.post y u)
    ends y u r ws said =
        qed 𝓛 (‵ ((type_at T.signature.result y.0.0).own_val r (u ∷ [])) ∷ raw (alive 𝓛 T.signature y.0.0 y.0.1) ∷ []) ∵
        suffices ! _ (ends_at 𝓛 T (nones T.signature.params T.kept) c y u r ws (nones_fit y.0.0 T.signature.params T.kept y.0.3 ws)) $
        use0 𝓛 (‵ (has_of y.0.0 T.signature.params T.kept (nones T.signature.params T.kept) y.0.3 ws y.0.4))
        (nones_had y.0.0 T.signature.params T.kept y.0.3 ws y.0.4) $
        join ! $ move ! (1 ∷ 0 ∷ []) $ join ! $ use0 𝓛 (raw ((c y.0.0 y.0.3).ensures y.1 r (at_exit T y.0.0 y.0.3 ws))) said $ move ! (1 ∷ 0 ∷ []) $ done !

    -- so the function meets its contract where every walk ends there, at the machine values that the arguments spell
    abbrev rows : Lfts T.signature.lifetimes → List RattleType
    rows κs = types_at T.signature.params κs

    abbrev pub Spelt : Type 0
    Spelt = (κs : Lfts T.signature.lifetimes) → Spells (rows κs)

    abbrev pub Told : Spelt → Type 0
    Told sp = (κs : Lfts T.signature.lifetimes) → Tellss (rows κs) (Ises (rows κs)) (sp κs)

    abbrev pub Walks : Spelt → Fn → Tables 𝓤 H → Type 1
    Walks sp fn 𝓣 =
        (κs : Lfts T.signature.lifetimes) (qs : Shares T.signature.lifetimes) (bounds : AllOutlive T.signature.lifetimes T.signature.outlives κs)
        (a : Args T.signature κs) (g : (c κs a).ghost)
        → let vss : Valss (rows κs) = valss (rows κs) (sp κs) a in Are (rows κs) (Ises (rows κs)) a vss
        → ent 𝓤 (sep 𝓤 (on_entry 𝓛 T.signature κs qs a vss) ((c κs a).requires g)) (WpFn 𝓤 H 𝓣.C 𝓣.Λ fn (flat (rows κs) vss) (Ends.post ((κs, qs, bounds, a, vss), g)))

    meets : Silents T.signature.params T.kept → (fn : Fn) (𝓣 : Tables 𝓤 H) (sp : Spelt) → Told sp → Walks sp fn 𝓣 → Meets 𝓛 T.signature (WpFn 𝓤 H 𝓣.C 𝓣.Λ fn) (closing 𝓛 T c)
    meets sil fn 𝓣 sp tl walk =
        walk_Meets 𝓛 T (nones T.signature.params T.kept) (nones_go T.signature.params T.kept sil) c (WpFn 𝓤 H 𝓣.C 𝓣.Λ fn) (WpFn-mono 𝓤 H 𝓛.laws 𝓣 fn)
        (walked 𝓛 T (nones T.signature.params T.kept) c (WpFn 𝓤 H 𝓣.C 𝓣.Λ fn) sp tl walk)

-- and this of its code, over what its calls mean, is its theorem
module _ {M : Type 1} {𝓤 : Ura M} (𝓛 : Logic 𝓤) (𝓜 : Model 𝓤 𝓛.H) (𝓡 : Running 𝓤 𝓛.H 𝓜) (γ : Names) (T : Ended) (c : Clauses 𝓤 T) where
  open 𝓛 use {H}

  abbrev meant : Tables 𝓤 H
  meant = tables_of 𝓤 H 𝓜 (tables 𝓤 H 𝓜 𝓡 γ)

  pub stands : (f : Callee) (fn : Fn) → Closed 𝓤 H (tables 𝓤 H 𝓜 𝓡 γ).C (tables 𝓤 H 𝓜 𝓡 γ).Λ f fn → Silents 𝓛 T.signature.params T.kept
      → (sp : Spelt 𝓛 T c) → Told 𝓛 T c sp → Walks 𝓛 T c sp fn meant → Triple 𝓤 ((tables 𝓤 H 𝓜 𝓡 γ).C f) (contract_of 𝓛 T c)
  unfolding tables_of
  stands f fn closed sil sp tl walk =
      entered 𝓤 H (contract_of 𝓛 T c) (tables 𝓤 H 𝓜 𝓡 γ).C (tables 𝓤 H 𝓜 𝓡 γ).Λ f fn closed (meets 𝓛 T c sil fn meant sp tl walk)
