use Rattle.std.proofs.Common.{◌≡◌, rules, tests, drop, take, length, ◌-◌, ◌∙◌, refl}
use Rattle.std.specs.Char.{to_ascii_lowercase}
use Rattle.std.specs.Ordering.{nat_cmp}
use Rattle.std.specs.Cmp.Lexicographic.{slice_cmp}
use Rattle.std.proofs.lemmas.Iterator.{YieldsList-from_slice, YieldsList-from_map}
use Rattle.std.proofs.lemmas.Iterator.Consumers.{YieldsList-at, YieldsList-from_copied, YieldsList-from_chain}
use Rattle.std.proofs.lemmas.Iterator.Search.{cmp_from_yields_List}
use Rattle.zone_record.proofs.UntextedNames.{between_is}
use Rattle.zone_record.proofs.embedded_names.compare_between.Goals as goal

pub returns : goal.returns
returns c =
    let l = c.args.left.now in
    let r = c.args.right.now in
    let a = c.args.names in
    let b = c.args.others in
    cmp_from_yields_List (λ x y. y ≡ x) _ nat_cmp _ c.cmp.ensures.ran
    (YieldsList-from_chain
    (YieldsList-at c.chain-first.ensures.first
    (YieldsList-from_chain
    (YieldsList-at c.chain.ensures.first (YieldsList-from_copied (YieldsList-at c.copied.ensures.source (YieldsList-from_slice (take a.start l) c.iter.ensures.rest))))
    (YieldsList-at c.chain.ensures.second
    (YieldsList-from_map _ to_ascii_lowercase (YieldsList-at c.map.ensures.source (YieldsList-from_slice (take (a.end - a.start) (drop a.start l)) c.iter-2.ensures.rest)) c.map.ensures.closure (λ x r q k. search (rules, tests))))
    c.chain.ensures.first_done c.chain.ensures.second_done))
    (YieldsList-at c.chain-first.ensures.second (YieldsList-from_copied (YieldsList-at c.copied-2.ensures.source (YieldsList-from_slice (take (length l - a.end) (drop a.end l)) c.iter-3.ensures.rest))))
    c.chain-first.ensures.first_done c.chain-first.ensures.second_done)
    (λ it e. YieldsList-at e
    (YieldsList-from_chain
    (YieldsList-at c.chain-second.ensures.first
    (YieldsList-from_chain
    (YieldsList-at c.chain-2.ensures.first (YieldsList-from_copied (YieldsList-at c.copied-3.ensures.source (YieldsList-from_slice (take b.start r) c.iter-4.ensures.rest))))
    (YieldsList-at c.chain-2.ensures.second
    (YieldsList-from_map _ to_ascii_lowercase (YieldsList-at c.map-2.ensures.source (YieldsList-from_slice (take (b.end - b.start) (drop b.start r)) c.iter-5.ensures.rest)) c.map-2.ensures.closure (λ x r q k. search (rules, tests))))
    c.chain-2.ensures.first_done c.chain-2.ensures.second_done))
    (YieldsList-at c.chain-second.ensures.second (YieldsList-from_copied (YieldsList-at c.copied-4.ensures.source (YieldsList-from_slice (take (length r - b.end) (drop b.end r)) c.iter-6.ensures.rest))))
    c.chain-second.ensures.first_done c.chain-second.ensures.second_done))
    (λ x y. refl)
    ∙ (λ i. slice_cmp nat_cmp (between_is a.start a.end (length l - a.end) l refl i) (between_is b.start b.end (length r - b.end) r refl i))
