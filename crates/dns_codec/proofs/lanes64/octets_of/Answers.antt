use Rattle.std.proofs.Common.{◌≡◌, length, map, ap, refl, sym, ◌∙◌, ◌%◌, arith}
use Rattle.std.proofs.lemmas.List.{length-map}
use lib.Lanes.{digits_l, number_l}
use Rattle.dns_codec.proofs.VectorsOf64.{below_more, octets_are, packed, packed_fit, three_lanes, threes, whole_packed, words, words_are}
use Rattle.dns_codec.proofs.lanes64.octets_of.Goals as goal

pub returns-clause-octets : goal.returns-clause-octets
returns-clause-octets c =
    let v = c.args.values in
    let four = words_are 4 v c.fits-values.0 (below_more v c.requires) in
    let count : length (words v) ≡ 4 = ap length (sym four) in
    let even : length v % 4 ≡ 0 = omega (arith, c.fits-values.0) in
    let bytes = ap (λ ws. digits_l 256 16 (number_l 4294967296 (map packed ws))) four
    ∙ octets_are 4 (map packed (words v)) (length-map (words v) packed ∙ count) (packed_fit v c.requires) in
    three_lanes (digits_l 256 16 (number_l 4294967296 (map packed (digits_l 4294967296 4 (number_l 256 v))))) refl ∙ (ap threes bytes ∙ whole_packed v c.requires even)
