use Rattle.std.proofs.Common.{rules, []}
use Rattle.std.proofs.lemmas.List.{drop_more}
use Rattle.dns_zone.specs.Documents.{item_step}
use Rattle.dnstext_lib.specs.Print.{item_word}
use Rattle.dnstext_lib.proofs.InTurn.{read_none, read_more, read_unknown, read_all, read_begins}
use Rattle.dnstext_lib.proofs.Printing.{drop_all}
use Rattle.dnstext_lib.proofs.print.read_items.Goals as goal

pub loop-word-init : goal.loop-word-init
loop-word-init g c = rw c.new-items.ensures.items (read_none (item_step {A = g.row.A.Denot}) item_word c.args.words.now)

pub loop-word-preserved : goal.loop-word-preserved
loop-word-preserved g c =
    let at = drop_more c.args.words.now c.loop-word.word-index (record { ref_ptr = (0, 0); now = [] }) c.loop-word-test.true in
    read_more item_step item_word c.args.words.now c.loop-word.word-index c.loop-word.items.items c.push.new.self.items _ c.in-Some.item at
    (rw c.in-Some.is at c.in_ok-item.ensures) (search rules) c.loop-word.invariant

pub returns-in_default-clause-unknown : goal.returns-in_default-clause-unknown
returns-in_default-clause-unknown g c = λ unknown.
    let at = drop_more c.args.words.now c.loop-word.word-index (record { ref_ptr = (0, 0); now = [] }) c.loop-word-test.true in
    read_unknown item_step item_word c.args.words.now c.loop-word.word-index c.loop-word.items.items _ at (rw c.in_default.is at c.in_ok-item.ensures) c.loop-word.invariant

pub returns-clause-items : goal.returns-clause-items
returns-clause-items g c = read_all item_step item_word c.args.words.now c.loop-word.word-index c.loop-word.items.items
    (drop_all c.args.words.now c.loop-word.word-index c.loop-word-test.false) c.loop-word.invariant

pub returns-in_err-item-clause-memory : goal.returns-in_err-item-clause-memory
returns-in_err-item-clause-memory g c = λ is.
    let at = drop_more c.args.words.now c.loop-word.word-index (record { ref_ptr = (0, 0); now = [] }) c.loop-word-test.true in
    read_begins item_step item_word c.args.words.now c.loop-word.word-index c.loop-word.items.items _ c.in_err-item.ensures.0 at c.in_err-item.ensures.1 c.loop-word.invariant

pub returns-then-is_err-clause-memory : goal.returns-then-is_err-clause-memory
returns-then-is_err-clause-memory g c = λ is.
    let at = drop_more c.args.words.now c.loop-word.word-index (record { ref_ptr = (0, 0); now = [] }) c.loop-word-test.true in
    read_begins item_step item_word c.args.words.now c.loop-word.word-index c.loop-word.items.items _ (item_step c.in-Some.item) at (rw c.in-Some.is at c.in_ok-item.ensures) c.loop-word.invariant
