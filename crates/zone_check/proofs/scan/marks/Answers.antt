use Rattle.std.proofs.Common.{ℕ, cond, ltb, refl}
use Rattle.std.proofs.lemmas.Simd.{zip2_splat, zip2_of_maps}
use Rattle.zone_check.specs.declared.scan.OctetKind.TheVariants.{Marked, Unusual, Parenthesis, Quote, Backslash, Semicolon}
use Rattle.zone_check.proofs.ScanLanes.{marks_by, splat_before}
use Rattle.zone_check.proofs.scan.marks.Goals as goal

pub returns-in-Marked : goal.returns-in-Marked
returns-in-Marked c =
    let v = c.args.octets in
    let low = zip2_of_maps _ _ _ v (zip2_splat {Y = ℕ} _ v 16 32 c.requires) (zip2_splat {Y = ℕ} _ v 16 9 c.requires) in
    let control = zip2_of_maps _ _ _ v low (zip2_splat {Y = ℕ} _ v 16 10 c.requires) in
    let unusual = zip2_of_maps _ _ _ v control (splat_before (λ a b. cond (ltb a b) 255 0) v 16 126 c.requires) in
    let open_ = zip2_of_maps _ _ _ v unusual (zip2_splat {Y = ℕ} _ v 16 40 c.requires) in
    let quote = zip2_of_maps _ _ _ v open_ (zip2_splat {Y = ℕ} _ v 16 34 c.requires) in
    let escape = zip2_of_maps _ _ _ v quote (zip2_splat {Y = ℕ} _ v 16 92 c.requires) in
    marks_by Marked c.args.kind v _ _ c.requires c.in-Marked.is (zip2_of_maps _ _ _ v escape (zip2_splat {Y = ℕ} _ v 16 59 c.requires)) refl

pub returns-in-Unusual : goal.returns-in-Unusual
returns-in-Unusual c =
    let v = c.args.octets in
    let low = zip2_of_maps _ _ _ v (zip2_splat {Y = ℕ} _ v 16 32 c.requires) (zip2_splat {Y = ℕ} _ v 16 9 c.requires) in
    let control = zip2_of_maps _ _ _ v low (zip2_splat {Y = ℕ} _ v 16 10 c.requires) in
    marks_by Unusual c.args.kind v _ _ c.requires c.in-Unusual.is (zip2_of_maps _ _ _ v control (splat_before (λ a b. cond (ltb a b) 255 0) v 16 126 c.requires)) refl

pub returns-in-Parenthesis : goal.returns-in-Parenthesis
returns-in-Parenthesis c = let v = c.args.octets in marks_by Parenthesis c.args.kind v _ _ c.requires c.in-Parenthesis.is (zip2_splat {Y = ℕ} _ v 16 40 c.requires) refl

pub returns-in-Quote : goal.returns-in-Quote
returns-in-Quote c = let v = c.args.octets in marks_by Quote c.args.kind v _ _ c.requires c.in-Quote.is (zip2_splat {Y = ℕ} _ v 16 34 c.requires) refl

pub returns-in-Backslash : goal.returns-in-Backslash
returns-in-Backslash c = let v = c.args.octets in marks_by Backslash c.args.kind v _ _ c.requires c.in-Backslash.is (zip2_splat {Y = ℕ} _ v 16 92 c.requires) refl

pub returns-in-Semicolon : goal.returns-in-Semicolon
returns-in-Semicolon c = let v = c.args.octets in marks_by Semicolon c.args.kind v _ _ c.requires c.in-Semicolon.is (zip2_splat {Y = ℕ} _ v 16 59 c.requires) refl
