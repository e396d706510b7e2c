use Rattle.std.proofs.Common.{◌≡◌, ap}
use Rattle.std.specs.Prelude.{find, ◌==◌}
use Rattle.rdata.specs.Types.{TypeShape, type_shapes}
use Rattle.rdata.proofs.types.usual_place.Goals as goal

pub returns-in-1 : goal.returns-in-1
unfolding type_shapes
returns-in-1 c = let e : c.args.rtype ≡ 1 = cc in ap (λ t. find (λ (s : TypeShape). s.rtype == t) type_shapes) e

pub returns-in-2 : goal.returns-in-2
unfolding type_shapes
returns-in-2 c = let e : c.args.rtype ≡ 2 = cc in ap (λ t. find (λ (s : TypeShape). s.rtype == t) type_shapes) e

pub returns-in-5 : goal.returns-in-5
unfolding type_shapes
returns-in-5 c = let e : c.args.rtype ≡ 5 = cc in ap (λ t. find (λ (s : TypeShape). s.rtype == t) type_shapes) e

pub returns-in-6 : goal.returns-in-6
unfolding type_shapes
returns-in-6 c = let e : c.args.rtype ≡ 6 = cc in ap (λ t. find (λ (s : TypeShape). s.rtype == t) type_shapes) e

pub returns-in-12 : goal.returns-in-12
unfolding type_shapes
returns-in-12 c = let e : c.args.rtype ≡ 12 = cc in ap (λ t. find (λ (s : TypeShape). s.rtype == t) type_shapes) e

pub returns-in-15 : goal.returns-in-15
unfolding type_shapes
returns-in-15 c = let e : c.args.rtype ≡ 15 = cc in ap (λ t. find (λ (s : TypeShape). s.rtype == t) type_shapes) e

pub returns-in-16 : goal.returns-in-16
unfolding type_shapes
returns-in-16 c = let e : c.args.rtype ≡ 16 = cc in ap (λ t. find (λ (s : TypeShape). s.rtype == t) type_shapes) e

pub returns-in-28 : goal.returns-in-28
unfolding type_shapes
returns-in-28 c = let e : c.args.rtype ≡ 28 = cc in ap (λ t. find (λ (s : TypeShape). s.rtype == t) type_shapes) e

pub returns-in-33 : goal.returns-in-33
unfolding type_shapes
returns-in-33 c = let e : c.args.rtype ≡ 33 = cc in ap (λ t. find (λ (s : TypeShape). s.rtype == t) type_shapes) e

pub returns-in-43 : goal.returns-in-43
unfolding type_shapes
returns-in-43 c = let e : c.args.rtype ≡ 43 = cc in ap (λ t. find (λ (s : TypeShape). s.rtype == t) type_shapes) e

pub returns-in-46 : goal.returns-in-46
unfolding type_shapes
returns-in-46 c = let e : c.args.rtype ≡ 46 = cc in ap (λ t. find (λ (s : TypeShape). s.rtype == t) type_shapes) e

pub returns-in-47 : goal.returns-in-47
unfolding type_shapes
returns-in-47 c = let e : c.args.rtype ≡ 47 = cc in ap (λ t. find (λ (s : TypeShape). s.rtype == t) type_shapes) e

pub returns-in-48 : goal.returns-in-48
unfolding type_shapes
returns-in-48 c = let e : c.args.rtype ≡ 48 = cc in ap (λ t. find (λ (s : TypeShape). s.rtype == t) type_shapes) e

pub returns-in-50 : goal.returns-in-50
unfolding type_shapes
returns-in-50 c = let e : c.args.rtype ≡ 50 = cc in ap (λ t. find (λ (s : TypeShape). s.rtype == t) type_shapes) e
