-- A loop in a walk. Each turn changes something, y: `At y` is what a turn has, `Facts y` what is known, and `left y` a number that falls from turn to turn.
-- Assumes `Logic`.
use mathlib.Core.Path.{◌≡◌, refl, subst}
use Prim.Native.Nat.{ℕ, ◌<◌}
use mathlib.Core.List.{List}
use lib.WfN.{lt-wf_rel}
use seplogic.Ra.Ura.{Ura}
use mir.Syntax.{Body, loop}
use base.Logic.{SProp, ent, ex, guard, via, ex_i, ex_e, guard_i, guard_e}
use prog.Wp.{Out, Env, after_turn, Wp, Tables}
use types.Logic.{Logic}
use sound.Loop.{loop_rule}
use types.Kit.{Item, ⋆}

module _ {M : Type 1} {𝓤 : Ura M} (𝓛 : Logic 𝓤) (Y : Type 0) (At : Y → List (Item 𝓤)) (Facts : Y → Type 0) (left : Y → ℕ) where
  open 𝓛 use {H}

  abbrev Known : ℕ → Y → SProp 𝓤
  Known t y = guard 𝓤 ((left y ≡ t) × Facts y) (⋆ 𝓛 (At y))

  abbrev Inv : ℕ → SProp 𝓤
  Inv t = ex 𝓤 (Known t)

  abbrev Lower : ℕ → ℕ → SProp 𝓤
  Lower t u = guard 𝓤 (u < t) (Inv u)

  -- where a turn ends that goes on: less than t is left
  abbrev pub Below : ℕ → SProp 𝓤
  Below t = ex 𝓤 (Lower t)

  inv_in : (y : Y) → Facts y → ent 𝓤 (⋆ 𝓛 (At y)) (Inv (left y))
  inv_in y f = via 𝓤 (Known (left y) y) (guard_i 𝓤 ((left y ≡ left y) × Facts y) (⋆ 𝓛 (At y)) (refl, f)) (ex_i 𝓤 (Known (left y)) y)

  pub below : (t : ℕ) (y : Y) → left y < t → Facts y → ent 𝓤 (⋆ 𝓛 (At y)) (Below t)
  below t y l f = via 𝓤 (Inv (left y)) (inv_in y f) (via 𝓤 (Lower t (left y)) (guard_i 𝓤 (left y < t) (Inv (left y)) l) (ex_i 𝓤 (Lower t) (left y)))

  -- so the loop is left as every turn leaves it
  module _ (𝓣 : Tables 𝓤 H) (E : Env 𝓤 H) (b : Body) (Q : Out → SProp 𝓤) where
    abbrev Turn : Y → ℕ → Type 1
    Turn y t = ent 𝓤 (⋆ 𝓛 (At y)) (Wp 𝓤 H 𝓣.C 𝓣.Λ E b (after_turn 𝓤 H (Below t) Q))

    pub looped : ((y : Y) → Facts y → Turn y (left y)) → (y : Y) → Facts y → ent 𝓤 (⋆ 𝓛 (At y)) (Wp 𝓤 H 𝓣.C 𝓣.Λ E (loop b) Q)
    looped turn y f =
        via 𝓤 (Inv (left y)) (inv_in y f)
        (loop_rule 𝓤 H 𝓛.laws 𝓣 ◌<◌ lt-wf_rel.wf E b Q Inv
        (λ t. ex_e 𝓤 (Known t) (λ z. guard_e 𝓤 ((left z ≡ t) × Facts z) (⋆ 𝓛 (At z)) (λ g. subst (Turn z) g.0 (turn z g.1)))) (left y))
