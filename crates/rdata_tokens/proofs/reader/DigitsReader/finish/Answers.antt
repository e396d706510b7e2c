use Rattle.std.proofs.Common.{◌≡◌, ◌∙◌, ap, sym, length}
use Rattle.rdata_tokens.specs.Reading.{DigitsState}
use Rattle.rdata_tokens.proofs.Pieces.{ends_open, held_length}
use Rattle.rdata_tokens.proofs.reader.DigitsReader.finish.Goals as goal

pub returns-else-self-eq0-clause-whole : goal.returns-else-self-eq0-clause-whole
returns-else-self-eq0-clause-whole c =
    let inside = c.self.inside in
    let held = held_length inside.kind inside.held inside.count c.self.invariant.0 c.self.told in
    let len : length c.args.self.now.begun ≡ inside.count = ap (λ (s : DigitsState). length s.begun) (sym c.self.view_is) ∙ held in
    λ text octets h. ends_open c.args.self.now text octets h (λ none. c.if-self-eq0.false (sym len ∙ ap length none))
