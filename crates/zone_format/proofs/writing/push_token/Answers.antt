use Rattle.std.proofs.Common.{◌≡◌, ◌++◌, sym, ap, ◌∙◌, subst, arith, append_assoc}
use Rattle.std.proofs.lemmas.List.Sums.{count_by-le-length}
use Rattle.zone_format.specs.Place.{begins_character}
use Rattle.zone_format.specs.Writing.{LineFits, blanks_before, token_before}
use Rattle.zone_format.proofs.Fitting.{token_fits}
use Rattle.zone_format.proofs.writing.push_token.Goals as goal

pub token_column-column-requires-clause-room : goal.token_column-column-requires-clause-room
token_column-column-requires-clause-room g c = omega (arith, c.requires.fits.few, c.requires.room, c.width-width.ensures.few, c.args.out.now.ok.0)

pub returns : goal.returns
returns g c =
    let old = c.args.out.now.items in
    let s = c.args.line_state in
    let x = c.args.token.now in
    let glued = c.args.is_adjacent in
    let out : c.extend_from_slice.new.self.items ≡ old ++ (token_before s glued x ++ x) =
    c.in_ok-extend_from_slice.ensures.items ∙ ap (λ l. l ++ x) (c.in_ok-push_before.ensures ∙ ap (λ n. old ++ blanks_before s n) c.token_column-column.ensures.column) ∙ append_assoc old (token_before s glued x) x in
    record {
      line_state = c.after_token.ensures;
      out = out;
      fits = subst (LineFits c.extend_from_slice.new.self.items) (sym c.after_token.ensures) (token_fits old s glued x c.extend_from_slice.new.self.items (count_by-le-length begins_character x) c.requires.fits out);
    }
