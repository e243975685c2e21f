-- What a walk does with the locals of its function, in a word each: one is read, or a field of one; one is filled by an assignment or by a call; and one goes.
-- A local is named by the place n of its cell in the context. Assumes `Logic`.
use mathlib.Core.Path.{◌≡◌, sym, subst}
use Prim.Native.Nat.{ℕ, zero, ◌+◌}
use mathlib.Core.List.{List, [], ◌∷◌}
use mathlib.Core.Option.{some}
use seplogic.Ra.Ura.{Ura}
use base.Fraction.{full_share}
use lib.Dec.{T as Holds}
use mir.Syntax.{Sym, Ty, Tys, ty_struct, place, field, copy, assign, Rv as RValue, Body, seq}
use mir.Val.{Val, Vals, vstruct, WT, has_ty}
use mir.Fields.{get_v, set_v}
use base.Logic.{ent, sep, via, mono_l, mono_r, assoc'}
use base.Fml.{Share, fat, froom, fdies}
use prog.Memory.{field_at, field_of}
use prog.Wp.{Env, Calls, Loops, spot_of}
use types.Logic.{Logic}
use types.Kit.{Item, ‵, mean, ⋆, nth, del, put, pull, Post, Goal, runs, lands, frees, Step, step}
use types.Part.{Part, whole, sub, look_in}
use types.Run.{Opd, Rv, look, init, stop, fld, from, load, assigns, land}

-- the local at the block b has room, or a value; and it dies at the end
module _ {M : Type 1} {𝓤 : Ura M} where
  abbrev pub room_at : Ty → ℕ → Item 𝓤
  room_at τ b = ‵ (froom τ b zero)

  abbrev pub value_at : Ty → ℕ → Val → Item 𝓤
  value_at τ b v = ‵ (fat full_share τ b zero v)

  abbrev pub dies_at : Ty → ℕ → Item 𝓤
  dies_at τ b = ‵ (fdies τ b)

module _ {M : Type 1} {𝓤 : Ura M} {𝓛 : Logic 𝓤} {K : Type 0} {Γ : List (Item 𝓤)} where
  open 𝓛 use {H}

  module _ {E : Env 𝓤 H} {i : ℕ} where
    pub takes : K → (n : ℕ) {q : Share} {v : Val} → nth 𝓛 n Γ ≡ ‵ (fat q (spot_of 𝓤 H E i).0 (spot_of 𝓤 H E i).1 zero v) → Opd K 𝓛 Γ E (copy (place i [])) v
    takes t n e = load t (from t (stop t)) (look t n e)

    -- the field k of a struct
    pub takes_field : K → (n k : ℕ) {q : Share} {ν : Sym} {τs : Tys} {vs : Vals} {τ : Ty} {d : ℕ} → nth 𝓛 n Γ ≡ ‵ (fat q (ty_struct ν τs) (spot_of 𝓤 H E i).1 zero (vstruct vs))
        → (spot_of 𝓤 H E i).0 ≡ ty_struct ν τs → field_at zero τs k ≡ some (τ, d) → Opd K 𝓛 Γ E (copy (place i (field k ∷ []))) (get_v vs k)
    takes_field t n k {q} {ν} {τs} {vs} {τ} {d} e s f =
        let b = (spot_of 𝓤 H E i).1 in
        let back : Val → Item 𝓤 = λ u. ‵ (fat q (ty_struct ν τs) b zero (vstruct (set_v vs k u))) in
        load t (from t (fld t (subst (λ (σ : Ty). field_of σ k ≡ some (τ, d)) (sym s) f) (stop t)))
        (look_in t n (subst (λ (x : Item 𝓤). Part K 𝓛 x q τ b (zero + d) (get_v vs k) back) (sym e) (sub t k f (whole t))))

    -- the field k of its field j, which is a struct too
    pub takes_inner : K → (n j k : ℕ) {q : Share} {ν ν' : Sym} {τs τs' : Tys} {vs us : Vals} {τ : Ty} {d d' : ℕ} → nth 𝓛 n Γ ≡ ‵ (fat q (ty_struct ν τs) (spot_of 𝓤 H E i).1 zero (vstruct vs))
        → (spot_of 𝓤 H E i).0 ≡ ty_struct ν τs → field_at zero τs j ≡ some (ty_struct ν' τs', d) → get_v vs j ≡ vstruct us → field_at zero τs' k ≡ some (τ, d')
        → Opd K 𝓛 Γ E (copy (place i (field j ∷ field k ∷ []))) (get_v us k)
    takes_inner t n j k {q} {ν} {ν'} {τs} {τs'} {vs} {us} {τ} {d} {d'} e s f g h =
        let b = (spot_of 𝓤 H E i).1 in
        let back : Val → Item 𝓤 = λ u. ‵ (fat q (ty_struct ν τs) b zero (vstruct (set_v vs j u))) in
        let outer = subst (λ (v : Val). Part K 𝓛 (‵ (fat q (ty_struct ν τs) b zero (vstruct vs))) q (ty_struct ν' τs') b (zero + d) v back) g (sub t j f (whole t)) in
        load t (from t (fld t (subst (λ (σ : Ty). field_of σ j ≡ some (ty_struct ν' τs', d)) (sym s) f) (fld t h (stop t))))
        (look_in t n (subst (λ (x : Item 𝓤). Part K 𝓛 x q τ b (zero + d + d') (get_v us k) (λ u. back (vstruct (set_v us k u)))) (sym e) (sub t k h outer)))

    module _ {C : Calls 𝓤 H} {Λ : Loops 𝓤 H} {q : Post 𝓤 H} {rest : Body} {v : Val} where
      pub fills : K → {rv : RValue} → Rv K 𝓛 Γ E rv v → (n : ℕ) → nth 𝓛 n Γ ≡ room_at (spot_of 𝓤 H E i).0 (spot_of 𝓤 H E i).1 → Holds (has_ty (spot_of 𝓤 H E i).0 v) × WT v
          → Step K 𝓛 (put 𝓛 n (value_at (spot_of 𝓤 H E i).0 (spot_of 𝓤 H E i).1 v) Γ) (runs C Λ E rest q) Γ (runs C Λ E (seq (assign (place i []) rv) rest) q)
      fills t r n e wt = assigns t r (from t (stop t)) (init t n e wt)

      pub fills_by_call : K → (n : ℕ) → nth 𝓛 n Γ ≡ room_at (spot_of 𝓤 H E i).0 (spot_of 𝓤 H E i).1 → Holds (has_ty (spot_of 𝓤 H E i).0 v) × WT v
          → Step K 𝓛 (put 𝓛 n (value_at (spot_of 𝓤 H E i).0 (spot_of 𝓤 H E i).1 v) Γ) (runs C Λ E rest q) Γ (lands C Λ E (place i []) v rest q)
      fills_by_call t n e wt = land t (from t (stop t)) (init t n e wt)

  -- at the end: its cell at n, and behind that that it dies
  pub gone : K → (n : ℕ) {τ : Ty} {b : ℕ} {v : Val} {E : Env 𝓤 H} {g : Goal 𝓤 H} → nth 𝓛 n Γ ≡ value_at τ b v → nth 𝓛 n (del 𝓛 n Γ) ≡ dies_at τ b
      → Step K 𝓛 (del 𝓛 n (del 𝓛 n Γ)) (frees E g) Γ (frees ((τ, b) ∷ E) g)
  gone t n {τ} {b} {v} {E} {g} e f =
      let Γ' = del 𝓛 n Γ in
      let cell = subst (λ (j : Item 𝓤). ent 𝓤 (⋆ 𝓛 Γ) (sep 𝓤 (mean 𝓛 j) (⋆ 𝓛 Γ'))) e (pull 𝓛 n Γ) in
      let dies = subst (λ (j : Item 𝓤). ent 𝓤 (⋆ 𝓛 Γ') (sep 𝓤 (mean 𝓛 j) (⋆ 𝓛 (del 𝓛 n Γ')))) f (pull 𝓛 n Γ') in
      step (λ s. record {
        prf =
            via 𝓤 _ cell
            (via 𝓤 _ (mono_l 𝓤 (⋆ 𝓛 Γ') (𝓛.laws.at_room τ b zero v))
            (via 𝓤 _ (mono_r 𝓤 (H.room τ b zero) dies)
            (via 𝓤 _ (assoc' 𝓤 (H.room τ b zero) (H.dies τ b) (⋆ 𝓛 (del 𝓛 n Γ'))) (mono_r 𝓤 (sep 𝓤 (H.room τ b zero) (H.dies τ b)) s.prf))));
      })
