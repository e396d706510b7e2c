-- Tests of an order that exclude or imply one another.
use Rattle.std.proofs.Common.{◌≡◌, true, false, refl}
use Rattle.std.specs.Ordering.{is_eq, is_le, is_lt}
use Rattle.std.specs.declared.cmp.Ordering.{Ordering}
use Rattle.std.specs.declared.cmp.Ordering.TheVariants.{Less, Equal, Greater}

pub is_tied : (o : Ordering) → is_lt o ≡ false → is_le o ≡ true → is_eq o ≡ true
is_tied Less h k = cc
is_tied Equal h k = refl
is_tied Greater h k = cc

pub less_not_tied : (o : Ordering) → is_lt o ≡ true → is_eq o ≡ false
less_not_tied Less h = refl
less_not_tied Equal h = cc
less_not_tied Greater h = cc

pub tied_le : (o : Ordering) → is_eq o ≡ true → is_le o ≡ true
tied_le Less h = refl
tied_le Equal h = refl
tied_le Greater h = cc
