-- A value that is there is no value that is not, and is fixed by its option.
use Rattle.std.proofs.Common.{◌≡◌, Some, None, Option, subst}

abbrev filled : {X : Type 0} → Option X → Type 0
filled None = ⊥
filled (Some x) = Unit {0}

pub some≢none : {X : Type 0} (x : X) → Some x ≡ None → ⊥
some≢none {X} x e = subst (λ (o : Option X). filled o) e tt

pub unsome : {X : Type 0} (x y : X) → Some x ≡ Some y → x ≡ y
unsome x y e = cc
