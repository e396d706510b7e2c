use Rattle.std.proofs.Common.{rules, []}
use Rattle.std.proofs.lemmas.List.{drop_more}
use Rattle.dnstext_lib.specs.EntryLine.{asked_of, field_word}
use Rattle.dnstext_lib.proofs.InTurn.{read_none, read_more, read_unknown, read_all, read_begins}
use Rattle.dnstext_lib.proofs.Printing.{drop_all}
use Rattle.dnstext_lib.proofs.line.read_fields.Goals as goal

pub loop-word-init : goal.loop-word-init
loop-word-init g c = rw c.new-found.ensures.items (read_none asked_of field_word c.args.words.now)

pub loop-word-preserved : goal.loop-word-preserved
loop-word-preserved g c =
    let at = drop_more c.args.words.now c.loop-word.word-index (record { ref_ptr = (0, 0); now = [] }) c.loop-word-test.true in
    read_more asked_of field_word c.args.words.now c.loop-word.word-index c.loop-word.found.items c.push.new.self.items _ c.in-Some.field at c.in-Some.ensures (search rules) c.loop-word.invariant

pub returns-in_default-clause-unknown : goal.returns-in_default-clause-unknown
returns-in_default-clause-unknown g c = λ unknown.
    let at = drop_more c.args.words.now c.loop-word.word-index (record { ref_ptr = (0, 0); now = [] }) c.loop-word-test.true in
    read_unknown asked_of field_word c.args.words.now c.loop-word.word-index c.loop-word.found.items _ at c.in_default.ensures c.loop-word.invariant

pub returns-clause-found : goal.returns-clause-found
returns-clause-found g c = read_all asked_of field_word c.args.words.now c.loop-word.word-index c.loop-word.found.items
    (drop_all c.args.words.now c.loop-word.word-index c.loop-word-test.false) c.loop-word.invariant

pub returns-then-is_err-clause-memory : goal.returns-then-is_err-clause-memory
returns-then-is_err-clause-memory g c = λ is.
    let at = drop_more c.args.words.now c.loop-word.word-index (record { ref_ptr = (0, 0); now = [] }) c.loop-word-test.true in
    read_begins asked_of field_word c.args.words.now c.loop-word.word-index c.loop-word.found.items _ (asked_of c.in-Some.field) at c.in-Some.ensures c.loop-word.invariant
