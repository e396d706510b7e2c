use Rattle.std.proofs.Common.{length}
use Rattle.std.specs.Prelude.{◌<◌, ◌+◌}
use Rattle.zone_generate.specs.Directives.{word_texts, words_text}
use Rattle.zone_generate.proofs.Appends.{short_of, when_err}
use Rattle.zone_generate.proofs.TokenSteps.{blank_lacks, word_lacks}
use Rattle.zone_generate.proofs.directive.append_words.Goals as goal

pub returns-in_err-append_slice-clause-fits : goal.returns-in_err-append_slice-clause-fits
returns-in_err-append_slice-clause-fits g c =
    let octets = g.B.AsOctets.octets in
    let l = c.loop-word in
    let old = octets c.args.out.now in
    let text = words_text (word_texts c.args.words.now) in
    when_err (g.B.OctetsBuilder.room.fits < length old + length text) c.from_residual.result
    (blank_lacks c.args.words.now l.word-index c.loop-word-test.true g.B.OctetsBuilder.room.fits old text (octets l.out) l.invariant.made (short_of _ _ _ c.in_err-append_slice.ensures.fits))

pub returns-in_err-append_slice-2-clause-fits : goal.returns-in_err-append_slice-2-clause-fits
returns-in_err-append_slice-2-clause-fits g c =
    let octets = g.B.AsOctets.octets in
    let l = c.loop-word in
    let old = octets c.args.out.now in
    let text = words_text (word_texts c.args.words.now) in
    when_err (g.B.OctetsBuilder.room.fits < length old + length text) c.from_residual-in_err-append_slice-2.result
    (word_lacks c.args.words.now l.word-index _ c.loop-word-test.true (octets l.out) g.B.OctetsBuilder.room.fits old text _ c.in_ok-append_slice.ensures.ok l.invariant.made (short_of _ _ _ c.in_err-append_slice-2.ensures.fits))
