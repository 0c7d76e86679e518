-- What holds of both choices of a test holds of the choice: by the test's two values.
use mathlib.Core.Path.{◌≡◌, refl}
use mathlib.Core.Bool.{Bool, true, false, cond}

pub either : {A : Type 0} (P : A → Type 0) (c : Bool) {x y : A} → (c ≡ true → P x) → (c ≡ false → P y) → P (cond c x y)
either P true t f = t refl
either P false t f = f refl

pub by_test : {A : Type 0} (c : Bool) → (c ≡ true → A) → (c ≡ false → A) → A
by_test true t f = t refl
by_test false t f = f refl
