-- Proofs of `predecessor`, src/version_records.rt.
use Rattle.std.proofs.Common.{◌≡◌, ◌∙◌, ℕ, refl, inl, sym, subst, rules}
use Rattle.edge_differences.specs.Listed.{AreSameBut}
use Rattle.version_list.specs.Machine.{newest_number, version_graph}
use Rattle.version_records.proofs.version_records.VersionRecords.predecessor.Goals as goal

pub returns : goal.returns
returns g c =
    let s = c.args.versions.now.state in
    let k = c.in_ok-former.former.now.version in
    let newest : newest_number s ≡ c.args.version = sym c.newest-newest.ensures.number ∙ sym c.if-version-newest.false in
    record {
      version = k;
      has = inl (record { found = c.in_ok-former.former.now; there = search rules; version = refl; run_record = refl });
      vertices = subst (λ (n : ℕ). (version_graph s n).vertices ≡ (version_graph s k).vertices) newest c.in_ok-edges.ensures.vertices;
      edges = subst (λ (n : ℕ). AreSameBut c.in_ok-edges.edges.items (version_graph s n).edges (version_graph s k).edges) newest c.in_ok-edges.ensures.edges;
    }
