use Rattle.std.proofs.Common.{rules, ◌≡◌, [], codes, refl, ap, subst, ◌∙◌, inl, inr}
use Rattle.std.specs.Io.KnownBytes.{Appends}
use Rattle.dnstext_lib.specs.Program.{refusal_line, bytes_of_words}
use Rattle.dnstext.proofs.Sinks.{kept_by_none, text_after, printed_on, refused_on, ran_on, silent_on}
use Rattle.dnstext.proofs.streams.run.Goals as goal

pub returns-then-is_err-clause-silent : goal.returns-then-is_err-clause-silent
returns-then-is_err-clause-silent g c = λ is. silent_on g.O.Write.contents (bytes_of_words c.args.words.now) _ c.run-status.new.out c.refuses_the_end-is_lost.new.self _ c.run-status.result
    (record { back = λ same. search rules; loan = c.refuses_the_end-is_lost.ensures.loan; kept = c.refuses_the_end-is_lost.ensures.kept }) c.run-status.ensures.status
    (λ z. (c.run-status.ensures.printed z).0) (λ z. let r = c.run-status.ensures.refused z in (r.0, r.1)) (λ z. let r = c.run-status.ensures.usage z in (r.0, r.1)) c.run-status.ensures.silent

pub returns-then-status-lt2-clause-refused : goal.returns-then-status-lt2-clause-refused
returns-then-status-lt2-clause-refused g c = λ is.
    let line = c.run-status.new.err.bytes in
    let ran = ran_on g.O.Write.contents (bytes_of_words c.args.words.now) _ c.run-status.new.out c.refuses_the_end-is_lost.new.self _ c.run-status.result line
    (record { back = λ same. search rules; loan = c.refuses_the_end-is_lost.ensures.loan; kept = c.refuses_the_end-is_lost.ensures.kept }) c.if-status-lt2.true
    (λ z. let r = c.run-status.ensures.printed z in (r.0, ap (λ x. x.bytes) r.1 ∙ c.new-line.ensures))
    (λ z. let r = c.run-status.ensures.refused z in (r.0, r.1, text_after (λ x. x.bytes) c.new-line.result (refusal_line r.0) c.run-status.new.err c.new-line.ensures r.2)) in
    (codes "write failed", inr ((line, ran), refl), c.refuse.ensures.wrote is)

pub returns-then-status-lt2-clause-silent : goal.returns-then-status-lt2-clause-silent
returns-then-status-lt2-clause-silent g c = λ is. silent_on g.O.Write.contents (bytes_of_words c.args.words.now) _ c.run-status.new.out c.refuses_the_end-is_lost.new.self _ c.run-status.result
    (record { back = λ same. search rules; loan = c.refuses_the_end-is_lost.ensures.loan; kept = c.refuses_the_end-is_lost.ensures.kept }) c.run-status.ensures.status
    (λ z. (c.run-status.ensures.printed z).0) (λ z. let r = c.run-status.ensures.refused z in (r.0, r.1)) (λ z. let r = c.run-status.ensures.usage z in (r.0, r.1)) c.run-status.ensures.silent

pub returns-clause-printed : goal.returns-clause-printed
returns-clause-printed g c = λ is.
    let run = c.run-status.ensures.printed is in
    let wrote : Appends (g.E.Write.contents c.args.err.now) (g.E.Write.contents c.write_all.new.self) c.as_bytes.result.now = search rules in
    let none : c.as_bytes.result.now ≡ [] = c.as_bytes.ensures.value ∙ c.as_str.ensures.value ∙ ap (λ x. x.bytes) run.1 ∙ c.new-line.ensures in (
      printed_on g.O.Write.contents _ _ c.run-status.new.out c.refuses_the_end-is_lost.new.self _
          (record { back = λ same. search rules; loan = c.refuses_the_end-is_lost.ensures.loan; kept = c.refuses_the_end-is_lost.ensures.kept }) run.0,
      kept_by_none _ _ _ none wrote,
    )

pub returns-clause-refused : goal.returns-clause-refused
returns-clause-refused g c = λ is.
    let run = c.run-status.ensures.refused is in
    let wrote : Appends (g.E.Write.contents c.args.err.now) (g.E.Write.contents c.write_all.new.self) c.as_bytes.result.now = search rules in
    let line : c.as_bytes.result.now ≡ refusal_line run.0 = c.as_bytes.ensures.value ∙ c.as_str.ensures.value
    ∙ text_after (λ x. x.bytes) c.new-line.result (refusal_line run.0) c.run-status.new.err c.new-line.ensures run.2 in (
      run.0,
      inl (refused_on g.O.Write.contents _ _ c.run-status.new.out c.refuses_the_end-is_lost.new.self _ run.0
          (record { back = λ same. search rules; loan = c.refuses_the_end-is_lost.ensures.loan; kept = c.refuses_the_end-is_lost.ensures.kept }) run.1),
      subst (λ b. Appends (g.E.Write.contents c.args.err.now) (g.E.Write.contents c.write_all.new.self) b) line wrote,
    )

pub returns-clause-silent : goal.returns-clause-silent
returns-clause-silent g c = λ is. silent_on g.O.Write.contents (bytes_of_words c.args.words.now) _ c.run-status.new.out c.refuses_the_end-is_lost.new.self _ c.run-status.result
    (record { back = λ same. search rules; loan = c.refuses_the_end-is_lost.ensures.loan; kept = c.refuses_the_end-is_lost.ensures.kept }) c.run-status.ensures.status
    (λ z. (c.run-status.ensures.printed z).0) (λ z. let r = c.run-status.ensures.refused z in (r.0, r.1)) (λ z. let r = c.run-status.ensures.usage z in (r.0, r.1)) c.run-status.ensures.silent
