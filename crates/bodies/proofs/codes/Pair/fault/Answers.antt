use Rattle.std.proofs.Common.{◌≡◌, false, not, sym, ap, ◌∙◌}
use Rattle.std.proofs.lemmas.Bool.{and_from, and_left, and_right, eq-eqb}
use Rattle.bodies.specs.Codes.{child_code}
use Rattle.bodies.proofs.PairFaults.{deep, fault_deep, fault_unmerged, fault_none, not_deep_level, not_deep_codes}
use Rattle.bodies.proofs.codes.Pair.fault.Goals as goal
use Rattle.bodies.proofs.codes.Pair.fault.Goals.{else-level-eq1-via-then-level-eq1+else-has_mixed, else-level-eq1-via-else-level-eq1, else-not-root-via-then-not-root+else-is_uniform, else-not-root-via-else-not-root}

pub returns-then-has_mixed : goal.returns-then-has_mixed
returns-then-has_mixed c =
    let code = child_code c.args.self.first c.args.self.second in
    sym (fault_deep c.args.level c.args.root code (and_from _ _ (eq-eqb _ _ c.if-level-eq1.true) (sym c.has_mixed.ensures ∙ c.if-has_mixed.true)))

pub returns-then-is_uniform : goal.returns-then-is_uniform
returns-then-is_uniform c =
    let code = child_code c.args.self.first c.args.self.second in
    let level = c.args.level in
    let root = c.args.root in
    let shallow : deep level root code ≡ false =
    elim c.else-level-eq1.branch [ else-level-eq1-via-then-level-eq1+else-has_mixed w ↦ not_deep_codes level root code (sym w.has_mixed.ensures ∙ w.if-has_mixed.false) | else-level-eq1-via-else-level-eq1 w ↦ not_deep_level level root code w.if-level-eq1.false ] in
    sym (fault_unmerged level root code shallow (and_from _ _ (ap not c.if-not-root.true) (sym c.is_uniform.ensures ∙ c.if-is_uniform.true)))

pub returns-else-not-root : goal.returns-else-not-root
returns-else-not-root c =
    let code = child_code c.args.self.first c.args.self.second in
    let level = c.args.level in
    let root = c.args.root in
    let shallow : deep level root code ≡ false =
    elim c.else-level-eq1.branch [ else-level-eq1-via-then-level-eq1+else-has_mixed w ↦ not_deep_codes level root code (sym w.has_mixed.ensures ∙ w.if-has_mixed.false) | else-level-eq1-via-else-level-eq1 w ↦ not_deep_level level root code w.if-level-eq1.false ] in
    sym (fault_none level root code shallow (elim c.else-not-root.branch [ else-not-root-via-then-not-root+else-is_uniform w ↦ and_right _ _ (sym w.is_uniform.ensures ∙ w.if-is_uniform.false) | else-not-root-via-else-not-root w ↦ and_left _ _ (ap not w.if-not-root.false) ]))
