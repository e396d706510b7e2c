use Rattle.std.proofs.Common.{subst, Ok, Err}
use Rattle.dns_codec.specs.Converting.{Makes, convert}
use Rattle.dns_codec.proofs.Refusing.{made_so, refused_so}
use Rattle.dns_codec.proofs.converter.Converter.take.Goals as goal

pub returns-in-None : goal.returns-in-None
returns-in-None g c =
    subst (λ s. Makes g.E.ScannerError.cause (convert g.K.Encoding.base s.group s.failed c.args.symbol) (Ok c.refuse.new.self.lends) c.refuse.new.self) c.self.view_is
    (made_so g.E.ScannerError.cause _ _ _ c.refuse.ensures c.in-None.is)

pub returns-in-Some : goal.returns-in-Some
returns-in-Some g c =
    subst (λ s. Makes g.E.ScannerError.cause (convert g.K.Encoding.base s.group s.failed c.args.symbol) (Err c.custom.result) c.refuse.new.self) c.self.view_is
    (refused_so g.E.ScannerError.cause _ _ c.in-Some.text _ _ c.refuse.ensures c.in-Some.is c.custom.ensures)
