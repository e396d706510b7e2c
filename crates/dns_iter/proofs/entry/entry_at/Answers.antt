use Rattle.std.proofs.Common.{List, length, refl, sym, ap, subst}
use Rattle.std.proofs.lemmas.Option.{slice_get_read}
use Rattle.dns_lexer.specs.Answer.{texts, entries_of}
use Rattle.dns_scan.specs.Tokens.{Token}
use Rattle.dns_iter.specs.Contents.{HaveContents}
use Rattle.dns_iter.proofs.Holding.{entry_is, held_at, holds_only, known_held, none_held}
use Rattle.dns_iter.proofs.entry.entry_at.Goals as goal

pub returns-in_err-tokens-clause-stands : goal.returns-in_err-tokens-clause-stands
returns-in_err-tokens-clause-stands g c = λ contents h. absurd (none_held c.args.entries.now c.args.place contents c.in_err-tokens.ensures.lookup.3 h)

pub returns-in_err-tokens-clause-splits : goal.returns-in_err-tokens-clause-splits
returns-in_err-tokens-clause-splits g c = λ found (text, splits, other) contents h.
    returns-in_err-tokens-clause-stands g c contents (known_held text (entries_of c.args.entries.now) found c.args.place contents splits other h)

pub returns-clause-stands : goal.returns-clause-stands
returns-clause-stands g c = λ contents h.
    let entries = c.args.entries.now in
    let entry = c.in_ok-tokens.tokens.now in
    let at = slice_get_read entries (length entries) c.args.place entry refl c.in_ok-tokens.ensures.lookup.3.0 c.in_ok-tokens.ensures.lookup.1 in
    let are = held_at (entries_of entries) c.args.place (texts entry.items) contents (entry_is entries c.args.place entry at) h in
    c.entry_scanner.ensures.stands contents (subst (λ (l : List Token). HaveContents l contents) (sym (ap texts c.deref.ensures.value)) are)

pub returns-clause-splits : goal.returns-clause-splits
returns-clause-splits g c = λ found (text, splits, other) contents h.
    returns-clause-stands g c contents (known_held text (entries_of c.args.entries.now) found c.args.place contents splits other h)

pub returns-clause-holds : goal.returns-clause-holds
returns-clause-holds g c = λ text splits.
    let entries = c.args.entries.now in
    let entry = c.in_ok-tokens.tokens.now in
    let at = slice_get_read entries (length entries) c.args.place entry refl c.in_ok-tokens.ensures.lookup.3.0 c.in_ok-tokens.ensures.lookup.1 in
    let held = holds_only text (entries_of entries) c.args.place (texts entry.items) splits (entry_is entries c.args.place entry at) in
    (held.0, held.1, returns-clause-stands g c held.0 held.1.holds)
