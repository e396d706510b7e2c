use Rattle.std.proofs.Common.{rules, ◌≡◌, ◌∙◌, [], ◌∷◌, refl, sym, subst, inl}
use Rattle.std.proofs.lemmas.Result.{IfOk-weaker}
use Rattle.dns_scan.specs.Octets.{unquoted_token}
use Rattle.dns_zone.specs.Documents.{item_steps, IsWellFormed}
use Rattle.dns_zone.specs.Layout.{token}
use Rattle.dns_laws.proofs.LineTokens.{unquoted_word}
use Rattle.dns_laws.proofs.strings.unquoted_text_is_a_token.Goals as goal

pub returns : goal.returns
returns g c =
    let steps : item_steps c.push.new.self.items ≡ token (unquoted_token c.args.string.now) ∷ [] = search rules in
    let formed = subst IsWellFormed (sym steps) (refl, (inl (unquoted_word c.args.string.now c.requires c.as_slice-octets.ensures.bytes), tt)) in
    (c.from_items.ensures.accepts.1 formed, IfOk-weaker c.from_items.result _ _ (λ d is. is ∙ steps) c.from_items.ensures.ok)
