use Rattle.std.proofs.Common.{◌≡◌, ◌<◌, length, Vec, Global, sym, ap, subst, ◌∙◌, arith}
use Rattle.std.proofs.lemmas.Result.{IfOk-weaker}
use Rattle.dcv_dfa.specs.Raw.{raw_accepts}
use Rattle.dcv_dfa.specs.Auto.{table_of_states}
use Rattle.dcv_language.specs.Certificate.{IsCertificate}
use Rattle.dcv_language.specs.declared.certificate.Suffix.{Suffix}
use Rattle.dcv_certificate.specs.Proof.{suffix_words}
use Rattle.dcv_certificate.specs.Separation.{AreVertices, IsSeparated}
use Rattle.dcv_certificate.specs.Vertices.{raw_of}
use Rattle.dcv_certificate.proofs.Listing.{suffix_words-nil}
use Rattle.dcv_certificate.proofs.Certificates.{are_vertices, certificate, no_suffixes}
use Rattle.dcv_certificate.proofs.certificate.suffixes_of.Goals as goal

pub returns-then-states-eq1-clause-certificate : goal.returns-then-states-eq1-clause-certificate
returns-then-states-eq1-clause-certificate c = λ words canonical.
    let raw = c.args.auto.now in
    let one : length words ≡ 1 = omega (arith, canonical.words, c.tables_have_the_states.ensures.states raw, c.states.ensures.states, c.if-states-eq1.true) in
    subst (IsCertificate raw.arena.slots (raw_accepts raw) words) (sym (ap suffix_words c.new.ensures.items ∙ suffix_words-nil)) (no_suffixes raw.arena.slots (raw_accepts raw) words one)

pub separating-requires : goal.separating-requires
separating-requires c =
    let v = c.in_ok-vertices.ensures in
    subst AreVertices (sym v.vertices) (are_vertices c.args.auto.now v.is_raw v.alone)

pub returns-clause-certificate : goal.returns-clause-certificate
returns-clause-certificate c =
    let raw = c.args.auto.now in
    let v = c.in_ok-vertices.ensures in
    let many : 1 < length raw.rows = omega (arith, c.states.ensures.states, c.states.ensures.some, c.if-states-eq1.false) in
    IfOk-weaker c.separating.result (λ (suffixes : Vec Suffix Global). IsSeparated (raw_of c.in_ok-vertices.vertices) (suffix_words suffixes.items)) _
    (λ suffixes separated words canonical.
    let listed = suffix_words suffixes.items in
    let same = (c.one_canonical_table.ensures raw.arena.slots (raw_accepts raw) (table_of_states raw) (table_of_states raw) v.auto.auto.access words v.auto.auto.canonical canonical).1 in
    subst (λ words. IsCertificate raw.arena.slots (raw_accepts raw) words listed) same
    (certificate raw v.alone v.auto v.is_raw c.tables_have_the_states.ensures.states c.tables_have_the_states.ensures.flags c.tables_accept_the_same.ensures.leads listed
    (subst (λ vertices. IsSeparated vertices listed) v.vertices separated) many))
    c.separating.ensures.separated
