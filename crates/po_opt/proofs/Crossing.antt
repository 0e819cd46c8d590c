-- A table of rules may cross threads.
use denote.Param.Send.{IsSend, IsSync, sendable}
use Rattle.std.proofs.Crossing.{crosses}
use Rattle.po_store.proofs.Crossing.{rule_send, rule_sync}
use Rattle.po_table.specs.contracts.table.RuleTable as RuleTable
use Rattle.po_team.proofs.Crossing.{machine_send, machine_sync}

pub rule_table_send : IsSend RuleTable.the_row
rule_table_send = search (machine_send, machine_sync, rule_send, rule_sync, crosses, sendable) depth 60 fits 20000

pub rule_table_sync : IsSync RuleTable.the_row
rule_table_sync = search (machine_send, machine_sync, rule_send, rule_sync, crosses, sendable) depth 60 fits 20000
