use Rattle.std.proofs.Common.{[], ◌∷◌}
use Rattle.rdata_tails.specs.LocationWords.{altitude_word, size_word}
use Rattle.rdata_tails.specs.declared.location_text.LocationWord.TheVariants.{Number}
use Rattle.rdata_tails.proofs.LocationLaws.{eight_words}
use Rattle.rdata_tails.proofs.location_text.location_words.Goals as goal

pub returns : goal.returns
returns c =
    let l = c.in_ok-location.location in
    let last = altitude_word l.altitude ∷ size_word l.sizes.size ∷ size_word l.sizes.horizontal ∷ size_word l.sizes.vertical ∷ [] in
    (l, c.in_ok-location.ensures, eight_words c.angle_words.result c.angle_words-2.result (Number 0) l.latitude l.longitude last c.angle_words.ensures c.angle_words-2.ensures)
