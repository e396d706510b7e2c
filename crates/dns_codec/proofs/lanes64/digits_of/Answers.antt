use Rattle.std.proofs.Common.{◌≡◌, ℕ, List, length, map, take, ap, sym, subst, ◌∙◌, ◌<◌, arith}
use Rattle.std.specs.List.{AllByRecursion}
use Rattle.std.proofs.lemmas.List.{length-map, length-take-le}
use lib.Lanes.{digits_l, number_l}
use Rattle.dns_codec.proofs.Vectors.{octets_fit}
use Rattle.dns_codec.proofs.VectorsOf64.{below_take, digits_low, digits_spread, octets_are, spread, spreads_fit, turned, turned_below, turned_lanes, words, words_are}
use Rattle.dns_codec.proofs.lanes64.digits_of.Goals as goal

pub returns-clause-digits : goal.returns-clause-digits
returns-clause-digits c =
    let v = c.args.octets in
    let xs : List ℕ = take 12 v in
    let low = below_take 256 12 v (octets_fit v c.fits-octets.1) in
    let twelve : length xs ≡ 12 = length-take-le 12 v (omega (arith, c.fits-octets.0)) in
    let lanes = turned_lanes v c.fits-octets.0 in
    let sixteen : length (turned xs) ≡ 16 = ap length (sym lanes) in
    let four = words_are 4 (turned xs) sixteen (turned_below xs low) in
    let count : length (words (turned xs)) ≡ 4 = ap length (sym four) in
    ap (λ p. digits_l 256 16 (number_l 4294967296 (map spread (digits_l 4294967296 4 (number_l 256 p))))) lanes
    ∙ (ap (λ ws. digits_l 256 16 (number_l 4294967296 (map spread ws))) four
    ∙ (octets_are 4 (map spread (words (turned xs))) (length-map (words (turned xs)) spread ∙ count) (spreads_fit (words (turned xs))) ∙ digits_spread xs low (omega arith)))

pub returns-clause-low : goal.returns-clause-low
returns-clause-low c =
    let v = c.args.octets in
    let xs : List ℕ = take 12 v in
    let twelve : length xs ≡ 12 = length-take-le 12 v (omega (arith, c.fits-octets.0)) in
    subst (λ ds. AllByRecursion (λ d. d < 64) ds) (sym (returns-clause-digits c)) (digits_low xs (below_take 256 12 v (octets_fit v c.fits-octets.1)) twelve)
