use Rattle.std.proofs.Common.{sym, subst}
use Rattle.dcv_dfa.specs.Raw.{raw_accepts}
use Rattle.dcv_language.specs.Certificate.{IsCertificate}
use Rattle.dcv_certificate.specs.Proof.{AreSpelled, suffix_words, GoOnFromEarlier}
use Rattle.dcv_certificate.proofs.certificate.separate.Goals as goal

pub returns : goal.returns
returns c =
    let raw = c.args.auto.now in
    let auto = c.access_of.ensures.auto in
    record {
      words = auto.access;
      canonical = auto.canonical;
      spelled = subst (λ access. AreSpelled access auto.access) (sym c.new.ensures.access) (c.in_ok-access.ensures.spelled auto.access auto.canonical);
      earlier = subst GoOnFromEarlier (sym c.new.ensures.suffixes) c.in_ok-suffixes.ensures.earlier;
      certificate = subst (λ suffixes. IsCertificate raw.arena.slots (raw_accepts raw) auto.access (suffix_words suffixes)) (sym c.new.ensures.suffixes)
          (c.in_ok-suffixes.ensures.certificate auto.access auto.canonical);
    }
