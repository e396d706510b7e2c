use Rattle.std.proofs.Common.{rules, []}
use Rattle.std.proofs.lemmas.List.{drop_more}
use Rattle.dns_zone.specs.EntryFields.{content_of, contents_of}
use Rattle.dns_scan.specs.StrError.{str_cause}
use Rattle.dns_zone.specs.declared.entry.FieldKind.TheVariants.{Number}
use Rattle.dnstext_lib.specs.declared.line.FieldWord.{FieldWord}
use Rattle.dnstext_lib.proofs.Fielding.{fields_more, fields_stop, fields_all, first_held}
use Rattle.dnstext_lib.proofs.Printing.{drop_all}
use Rattle.dnstext_lib.proofs.line.make_fields.Goals as goal

abbrev no_word : FieldWord
no_word = record { kind = Number; text = record { ref_ptr = (0, 0); now = [] } }

pub returns-in-Err : goal.returns-in-Err
returns-in-Err g c =
    let at = drop_more c.args.words.now c.loop-word.word-index no_word c.loop-word-test.true in (
      contents_of c.loop-word.fields.items,
      fields_stop c.args.words.now c.loop-word.word-index _ (contents_of c.loop-word.fields.items)
          (str_cause c.in-Err.error) at c.in-Err.ensures c.loop-word.invariant.left,
    )

pub loop-word-preserved : goal.loop-word-preserved
loop-word-preserved g c =
    let at = drop_more c.args.words.now c.loop-word.word-index no_word c.loop-word-test.true in
    record {
      left = fields_more c.args.words.now c.loop-word.word-index _ c.loop-word.fields.items c.push.new.self.items c.in-Ok.field at c.in-Ok.ensures (search rules) c.loop-word.invariant.left;
      first = λ _. first_held c.args.words.now c.loop-word.word-index _ (content_of c.in-Ok.field) at c.in-Ok.ensures c.loop-word.invariant.first;
    }

pub returns-then-is_err : goal.returns-then-is_err
returns-then-is_err g c =
    let at = drop_more c.args.words.now c.loop-word.word-index no_word c.loop-word-test.true in
    first_held c.args.words.now c.loop-word.word-index _ (content_of c.in-Ok.field) at c.in-Ok.ensures c.loop-word.invariant.first

pub returns : goal.returns
returns g c = fields_all c.args.words.now c.loop-word.word-index (contents_of c.loop-word.fields.items) (drop_all c.args.words.now c.loop-word.word-index c.loop-word-test.false) c.loop-word.invariant.left
