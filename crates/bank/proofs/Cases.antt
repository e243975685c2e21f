-- A choice of two: what holds of each holds of the one that is taken.
-- Assumes nothing.
use mathlib.Core.Path.{◌≡◌, refl}
use mathlib.Core.Bool.{Bool, true, false, cond}

pub both : {A B : Type 0} (g : A → B) (q : Bool) {u v : B} {s t : A} → (q ≡ true → u ≡ g s) → (q ≡ false → v ≡ g t) → cond q u v ≡ g (cond q s t)
both g true h k = h refl
both g false h k = k refl

pub either : {A : Type 0} (P : A → Type 0) (q : Bool) (s t : A) → (q ≡ true → P s) → (q ≡ false → P t) → P (cond q s t)
either P true s t h k = h refl
either P false s t h k = k refl
