use Rattle.std.proofs.Common.{rules, inl, inr, ⊎_elim}
use Rattle.dnstext_lib.specs.EntryLine.{AsksFields, IsLineCommand}
use Rattle.dnstext_lib.specs.Print.{AsksItems, IsPrintCommand}
use Rattle.dnstext_lib.specs.Program.{bytes_of_words, IsScanCommand}
use Rattle.dnstext_lib.specs.Run.{IsUnknownCommand}
use Rattle.dnstext_lib.proofs.program.run.Goals as goal

pub returns-in-Some-scan_kind-clause-silent : goal.returns-in-Some-scan_kind-clause-silent
returns-in-Some-scan_kind-clause-silent g c = λ is.
    let asks : IsScanCommand (bytes_of_words c.args.words.now) c.in-Some-scan_kind.kind (bytes_of_words c.in-Some-split_first.others.now) = search rules in
    let refused = c.run_scan.ensures.silent is in
    inr (refused.0, inl (c.in-Some-scan_kind.kind, bytes_of_words c.in-Some-split_first.others.now, asks, refused.1))

pub returns-in-Some-layout_kind-clause-usage : goal.returns-in-Some-layout_kind-clause-usage
returns-in-Some-layout_kind-clause-usage g c = λ is.
    let told = c.run_print.ensures.usage is in (
      record {
        scan = λ kind tokens e. search rules;
        print = λ kind steps e. let asks : AsksItems (bytes_of_words c.in-Some-split_first.others.now) steps = search rules in told.0 steps asks;
        line = λ kind asked e. search rules;
      },
      told.1,
      told.2,
    )

pub returns-in-Some-layout_kind-clause-silent : goal.returns-in-Some-layout_kind-clause-silent
returns-in-Some-layout_kind-clause-silent g c = λ is.
    let asks : IsPrintCommand (bytes_of_words c.args.words.now) c.in-Some-layout_kind.kind (bytes_of_words c.in-Some-split_first.others.now) = search rules in
    ⊎_elim
    (λ k. let none : IsUnknownCommand (bytes_of_words c.args.words.now) = record {
      scan = λ kind tokens e. search rules;
      print = λ kind steps e. let items : AsksItems (bytes_of_words c.in-Some-split_first.others.now) steps = search rules in k.0 steps items;
      line = λ kind asked e. search rules;
    } in inl (none, k.1))
    (λ k. inr (k.0, inr (inl (c.in-Some-layout_kind.kind, bytes_of_words c.in-Some-split_first.others.now, asks, k.1))))
    (c.run_print.ensures.silent is)

pub returns-in-Some-layout_kind-2-clause-silent : goal.returns-in-Some-layout_kind-2-clause-silent
returns-in-Some-layout_kind-2-clause-silent g c = λ is.
    let asks : IsLineCommand (bytes_of_words c.args.words.now) c.in-Some-layout_kind-2.kind (bytes_of_words c.in-Some-split_first.others.now) = search rules in
    ⊎_elim
    (λ k. let none : IsUnknownCommand (bytes_of_words c.args.words.now) = record {
      scan = λ kind tokens e. search rules;
      print = λ kind steps e. search rules;
      line = λ kind asked e. let fields : AsksFields (bytes_of_words c.in-Some-split_first.others.now) asked = search rules in k.0 asked fields;
    } in inl (none, k.1))
    (λ k. inr (k.0, inr (inr (c.in-Some-layout_kind-2.kind, bytes_of_words c.in-Some-split_first.others.now, asks, k.1))))
    (c.run_line.ensures.silent is)
