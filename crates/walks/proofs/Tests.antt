-- The tests of a loop in a walk: of a `while`, and of an `if` that breaks.
-- Assumes `Logic`.
use Prim.Native.Nat.{ℕ}
use mathlib.Core.List.{List}
use mathlib.Core.Bool.{Bool, not}
use seplogic.Ra.Ura.{Ura}
use lib.Dec.{T as Holds}
use mir.Syntax.{Opd as Operand, Body, seq, cond, skip, exit}
use mir.Val.{vbool}
use prog.Wp.{Env, Calls, Loops, exits}
use types.Logic.{Logic}
use types.Kit.{Item, Post, post, prop, runs, Seq, ◌$◌}
use types.Run.{Opd, first, branches, skips, jumps}

module _ {M : Type 1} {𝓤 : Ura M} {𝓛 : Logic 𝓤} {K : Type 0} {Γ : List (Item 𝓤)} {E : Env 𝓤 𝓛.H} {C : Calls 𝓤 𝓛.H} {Λ : Loops 𝓤 𝓛.H}
    {q : Post 𝓤 𝓛.H} {c : Operand} {n : ℕ} {b : Body} {y : Bool} where
  open 𝓛 use {H}

  pub goes_on_if : K → Opd K 𝓛 Γ E c (vbool y) → (Holds y → Seq K 𝓛 Γ (runs C Λ E b q)) → (Holds (not y) → Seq K 𝓛 Γ (prop (post 𝓤 H q (exits n))))
      → Seq K 𝓛 Γ (runs C Λ E (seq (cond c skip (exit n)) b) q)
  goes_on_if t o on out = first t $ branches t o (λ h. skips t $ record { prf = (on h).prf }) (λ h. jumps t $ record { prf = (out h).prf })

  pub breaks_if : K → Opd K 𝓛 Γ E c (vbool y) → (Holds (not y) → Seq K 𝓛 Γ (runs C Λ E b q)) → (Holds y → Seq K 𝓛 Γ (prop (post 𝓤 H q (exits n))))
      → Seq K 𝓛 Γ (runs C Λ E (seq (cond c (exit n) skip) b) q)
  breaks_if t o on out = first t $ branches t o (λ h. jumps t $ record { prf = (out h).prf }) (λ h. skips t $ record { prf = (on h).prf })
