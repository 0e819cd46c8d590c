use Rattle.std.proofs.Common.{◌≡◌, All, subst}
use denote.Param.Send.{sendable}
use Rattle.std.proofs.Crossing.{crosses}
use Rattle.po_queue.specs.Passes.{PassView, new_pass}
use Rattle.po_rule.specs.declared.miss.Miss.{Miss}
use Rattle.po_store.proofs.version.Version.TheSendSync as version
use Rattle.po_team.proofs.Seating.{all_last}
use Rattle.po_opt.proofs.Crossing.{rule_table_send, rule_table_sync}
use Rattle.po_opt.proofs.opt.run_over.Goals as goal

pub run-requires-send-V : goal.run-requires-send-V
run-requires-send-V g c κs within =
    search (version.the_send, rule_table_send, rule_table_sync, crosses, sendable) depth 60 fits 20000

pub run-requires-send-T : goal.run-requires-send-T
run-requires-send-T g c κs within = search (rule_table_send, crosses, sendable) depth 60 fits 20000

pub run-requires-sync-V : goal.run-requires-sync-V
run-requires-sync-V g c κs within =
    search (version.the_sync, rule_table_send, rule_table_sync, crosses, sendable) depth 60 fits 20000

pub run-requires-sync-T : goal.run-requires-sync-T
run-requires-sync-T g c κs within = search (rule_table_sync, crosses, sendable) depth 60 fits 20000

pub run-requires-clause-pass : goal.run-requires-clause-pass
run-requires-clause-pass g c κs within =
    let Fresh : PassView Miss → Type 0 = λ p. p ≡ new_pass c.in-Ok.posts.queue in
    all_last Fresh c.pop.new.self.items c.in-Some.pass
    (subst (All Fresh) c.in-Some.ensures.items c.in-Ok.ensures.new)
