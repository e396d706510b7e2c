use Rattle.std.proofs.Common.{ap, refl}
use Rattle.rdata_values.specs.Registry.{row_code}
use Rattle.rdata_values.specs.Types.{type_rows}
use Rattle.rdata_values.proofs.types.usual_code.Goals as goal

pub returns-then-is_name : goal.returns-then-is_name
unfolding type_rows
returns-then-is_name c = ap (row_code type_rows) (c.if-is_name.ensures.0 refl)

pub returns-then-is_name-2 : goal.returns-then-is_name-2
unfolding type_rows
returns-then-is_name-2 c = ap (row_code type_rows) (c.if-is_name-2.ensures.0 refl)

pub returns-then-is_name-3 : goal.returns-then-is_name-3
unfolding type_rows
returns-then-is_name-3 c = ap (row_code type_rows) (c.if-is_name-3.ensures.0 refl)

pub returns-then-is_name-4 : goal.returns-then-is_name-4
unfolding type_rows
returns-then-is_name-4 c = ap (row_code type_rows) (c.if-is_name-4.ensures.0 refl)

pub returns-then-is_name-5 : goal.returns-then-is_name-5
unfolding type_rows
returns-then-is_name-5 c = ap (row_code type_rows) (c.if-is_name-5.ensures.0 refl)

pub returns-then-is_name-6 : goal.returns-then-is_name-6
unfolding type_rows
returns-then-is_name-6 c = ap (row_code type_rows) (c.if-is_name-6.ensures.0 refl)

pub returns-then-is_name-7 : goal.returns-then-is_name-7
unfolding type_rows
returns-then-is_name-7 c = ap (row_code type_rows) (c.if-is_name-7.ensures.0 refl)

pub returns-then-is_name-8 : goal.returns-then-is_name-8
unfolding type_rows
returns-then-is_name-8 c = ap (row_code type_rows) (c.if-is_name-8.ensures.0 refl)

pub returns-then-is_name-9 : goal.returns-then-is_name-9
unfolding type_rows
returns-then-is_name-9 c = ap (row_code type_rows) (c.if-is_name-9.ensures.0 refl)

pub returns-then-is_name-10 : goal.returns-then-is_name-10
unfolding type_rows
returns-then-is_name-10 c = ap (row_code type_rows) (c.if-is_name-10.ensures.0 refl)

pub returns-then-is_name-11 : goal.returns-then-is_name-11
unfolding type_rows
returns-then-is_name-11 c = ap (row_code type_rows) (c.if-is_name-11.ensures.0 refl)

pub returns-then-is_name-12 : goal.returns-then-is_name-12
unfolding type_rows
returns-then-is_name-12 c = ap (row_code type_rows) (c.if-is_name-12.ensures.0 refl)

pub returns-then-is_name-13 : goal.returns-then-is_name-13
unfolding type_rows
returns-then-is_name-13 c = ap (row_code type_rows) (c.if-is_name-13.ensures.0 refl)

pub returns-then-is_name-14 : goal.returns-then-is_name-14
unfolding type_rows
returns-then-is_name-14 c = ap (row_code type_rows) (c.if-is_name-14.ensures.0 refl)
