use Rattle.rdata_values.proofs.algorithms.CertificateType.from_text.Goals as goal

pub returns-in-Err : goal.returns-in-Err
returns-in-Err c = (c.in-Err.ensures.0, λ t h. c.in-Err.ensures.1 t.0 h)
