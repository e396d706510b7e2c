use Rattle.std.proofs.Common.{refl}
use Rattle.std.proofs.lemmas.Simd.{zip2_splat, zip2_of_maps}
use Rattle.dns_lexer.specs.declared.runs.OctetClass.TheVariants.{Word, Quote, Comment, Blank, Line, Label}
use Rattle.dns_lexer.proofs.Lanes.{marks_by}
use Rattle.dns_lexer.proofs.runs.ends.Goals as goal

pub returns-in-Word : goal.returns-in-Word
returns-in-Word c =
    let v = c.args.octets in
    marks_by Word c.args.class v _ _ c.requires c.in-Word.is
    (zip2_of_maps _ _ _ v (zip2_of_maps _ _ _ v (zip2_splat _ v 16 42 c.requires) (zip2_splat _ v 16 59 c.requires)) (zip2_splat _ v 16 92 c.requires)) refl

pub returns-in-Quote : goal.returns-in-Quote
returns-in-Quote c =
    let v = c.args.octets in
    marks_by Quote c.args.class v _ _ c.requires c.in-Quote.is
    (zip2_of_maps _ _ _ v (zip2_of_maps _ _ _ v (zip2_splat _ v 16 32 c.requires) (zip2_splat _ v 16 34 c.requires)) (zip2_splat _ v 16 92 c.requires)) refl

pub returns-in-Comment : goal.returns-in-Comment
returns-in-Comment c =
    let v = c.args.octets in
    marks_by Comment c.args.class v _ _ c.requires c.in-Comment.is
    (zip2_of_maps _ _ _ v (zip2_splat _ v 16 10 c.requires) (zip2_splat _ v 16 13 c.requires)) refl

pub returns-in-Blank : goal.returns-in-Blank
returns-in-Blank c =
    let v = c.args.octets in
    marks_by Blank c.args.class v _ _ c.requires c.in-Blank.is
    (zip2_of_maps _ _ _ v (zip2_splat _ v 16 32 c.requires) (zip2_splat _ v 16 9 c.requires)) refl

pub returns-in-Line : goal.returns-in-Line
returns-in-Line c =
    let v = c.args.octets in
    let few = zip2_of_maps _ _ _ v (zip2_of_maps _ _ _ v (zip2_splat _ v 16 10 c.requires) (zip2_splat _ v 16 13 c.requires)) (zip2_splat _ v 16 59 c.requires) in
    let more = zip2_of_maps _ _ _ v (zip2_of_maps _ _ _ v few (zip2_splat _ v 16 34 c.requires)) (zip2_splat _ v 16 40 c.requires) in
    marks_by Line c.args.class v _ _ c.requires c.in-Line.is
    (zip2_of_maps _ _ _ v (zip2_of_maps _ _ _ v more (zip2_splat _ v 16 41 c.requires)) (zip2_splat _ v 16 92 c.requires)) refl

pub returns-in-Label : goal.returns-in-Label
returns-in-Label c =
    let v = c.args.octets in
    marks_by Label c.args.class v _ _ c.requires c.in-Label.is
    (zip2_of_maps _ _ _ v (zip2_splat _ v 16 46 c.requires) (zip2_splat _ v 16 92 c.requires)) refl
