use Rattle.std.proofs.Common.{arith, ◌≡◌, ◌+◌, ◌++◌, length, sym, ap, subst, ◌∙◌}
use Rattle.std.specs.List.{flat_map, range_with_len}
use Rattle.cdb_any_run.proofs.OpenCopies.{flat_map-more}
use Rattle.cdb_rules.specs.Views.{open_copies}
use Rattle.cdb_agreement.proofs.Lawful.{each_receives}
use Rattle.cdb_agreement.specs.Algorithms.{rules as rules_of_setup}
use Rattle.cdb_setup.specs.Parts.{AreInRange}
use Rattle.cdb_any_run.proofs.runs.AnyRunRuns.mail.Goals as goal

pub loop-i-preserved : goal.loop-i-preserved
loop-i-preserved c =
    let now = c.args.self.now in
    let mail = (rules_of_setup now.setup).mail now.history in
    let i = c.loop-i.i in
    let items = c.loop-i.copies.items in
    let number : c.new.result ≡ 1 + i = omega (arith, c.new.ensures.value) in
    c.in_ok-push_open_copies.ensures
    ∙ ap (λ p. items ++ open_copies mail p) number
    ∙ ap (λ before. before ++ open_copies mail (1 + i)) c.loop-i.invariant
    ∙ sym (flat_map-more (open_copies mail) 1 i)

pub returns : goal.returns
returns c =
    let now = c.args.self.now in
    let mail = (rules_of_setup now.setup).mail now.history in
    let range : AreInRange now.setup = subst AreInRange c.setup.ensures c.n-n.ensures.ranges in
    let receivers = each_receives now.setup range now.history in
    let count = c.n-n.ensures.value ∙ ap (λ s. s.processes) c.setup.ensures in
    let all : c.loop-i.i ≡ length mail.received = omega (arith, receivers, count, c.loop-i-test.false, c.loop-i.auto.i-end) in
    c.loop-i.invariant ∙ ap (λ n. flat_map (open_copies mail) (range_with_len 1 n)) all
