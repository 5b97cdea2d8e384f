use Rattle.std.proofs.Common.{◌≡◌, ℕ, true, List, [], sym, ap, subst, ◌∙◌}
use Rattle.toml.specs.View.{table_view}
use Rattle.ev_fabric.specs.Opening.{AreConfigs}
use Rattle.ev_config.specs.Faults.{SeenNames, is_run, edge_items, faults_in, names_in}
use Rattle.ev_config.specs.Config.{Whole, have_cables, view_of, edges_of, whole_of}
use Rattle.ev_config.specs.Inner.Faults.{faults_view}
use Rattle.ev_config.proofs.Cables.{cables}
use Rattle.ev_config.proofs.Opening.{opens}
use Rattle.ev_config.proofs.config.whole_in.Goals as goal

pub returns-clause-opens : goal.returns-clause-opens
returns-clause-opens c =
    let w = c.args.wanted in
    let t = table_view c.args.document.now in
    let none : faults_in w t ≡ [] =
    sym c.in_ok-found.ensures.faults ∙ ap faults_view (sym c.as_slice.ensures.value) ∙ c.in_ok-refuse.ensures in
    let listed : c.in_ok-found.found.names.addresses.items ≡ (names_in w t).addresses =
    ap (λ (n : SeenNames). n.addresses) c.in_ok-found.ensures.names in
    let whole : view_of c.in_ok-edges_in.field-0 ≡ whole_of w t =
    c.in_ok-edges_in.ensures ∙ ap (λ (ns : List ℕ). edges_of ns (edge_items t)) listed in
    subst (λ (x : Whole). AreConfigs x.0) (sym whole) (opens w t none)

pub returns-clause-cables : goal.returns-clause-cables
returns-clause-cables c =
    let w = c.args.wanted in
    let t = table_view c.args.document.now in
    let none : faults_in w t ≡ [] =
    sym c.in_ok-found.ensures.faults ∙ ap faults_view (sym c.as_slice.ensures.value) ∙ c.in_ok-refuse.ensures in
    let listed : c.in_ok-found.found.names.addresses.items ≡ (names_in w t).addresses =
    ap (λ (n : SeenNames). n.addresses) c.in_ok-found.ensures.names in
    let whole : view_of c.in_ok-edges_in.field-0 ≡ whole_of w t =
    c.in_ok-edges_in.ensures ∙ ap (λ (ns : List ℕ). edges_of ns (edge_items t)) listed in
    subst (λ (x : Whole). have_cables (is_run w) x.1 ≡ true) (sym whole) (cables w t none)
