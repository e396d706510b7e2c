use Rattle.std.proofs.Common.{ℕ, List, [], ◌∷◌, ◌≡◌, ◌<◌, ◌∙◌, ap, length, refl, subst, sym, arith}
use Rattle.std.specs.Prelude.{OnErr, OnOk}
use Rattle.dns_zone.specs.Layout.{token}
use Rattle.rdata_values.specs.Hex.{pairs_text}
use Rattle.rdata_values.specs.Salt.{salt_text}
use Rattle.zone_record.proofs.rdata_print.write_hit.Goals as goal

-- a tag prints as a salt of one octet or more does
some_salt : (octets : List ℕ) → 0 < length octets → salt_text octets ≡ pairs_text octets
some_salt [] some = absurd (omega (arith, some))
some_salt (o ∷ os) some = refl

pub unreachable-requires : goal.unreachable-requires
unreachable-requires g c = c.in-None.ensures c.requires.2

pub returns-clause-gives : goal.returns-clause-gives
returns-clause-gives g c =
    let shown = ap salt_text c.in-Some.ensures.1 ∙ some_salt c.args.octets.now c.requires.1 in
    subst (λ (text : List ℕ). OnOk c.write_token.result (g.F.FormatWriter.step_gives c.args.p.now (token text) c.write_token.new.self)) shown c.write_token.ensures.gives

pub returns-clause-fails : goal.returns-clause-fails
returns-clause-fails g c =
    let shown = ap salt_text c.in-Some.ensures.1 ∙ some_salt c.args.octets.now c.requires.1 in
    subst (λ (text : List ℕ). OnErr c.write_token.result (g.F.FormatWriter.step_fails c.args.p.now (token text))) shown c.write_token.ensures.fails
