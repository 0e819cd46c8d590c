-- Pairs, rules and the publisher may cross threads, and so may their parts: from one part to the next, each by a
-- search of its own.
use denote.RattleType.{RattleType}
use denote.Param.Send.{IsSend, IsSync, sendable}
use Rattle.left_right.specs.declared.Absorb as Absorb
use Rattle.std.proofs.Crossing.{crosses}
use Rattle.std.proofs.sync.ledger.Book.TheSendSync as book
use Rattle.std.proofs.sync.ledger.Share.TheSendSync as share
use Rattle.std.specs.declared.sync.ledger.Ledger as Ledger
use Rattle.po_term.proofs.term.Term.TheLaws.TheKnot as term
use Rattle.po_term.specs.contracts.term.Term as Term
use Rattle.po_term.specs.contracts.transfer.Cond as Cond
use Rattle.po_term.specs.contracts.transfer.Instr as Instr
use Rattle.po_term.specs.contracts.transfer.Transfer as Transfer
use Rattle.po_word.proofs.expression.CExpr.TheLaws.TheKnot as expression
use Rattle.po_word.specs.contracts.expression.CExpr as CExpr
use Rattle.po_model.proofs.hole.PTerm.TheLaws.TheKnot as pattern_term
use Rattle.po_model.proofs.pair.Live.TheSendSync as live
use Rattle.po_model.specs.contracts.hole.PCond as PCond
use Rattle.po_model.specs.contracts.hole.PTerm as PTerm
use Rattle.po_model.specs.contracts.hole.PTransfer as PTransfer
use Rattle.po_model.specs.contracts.pair.Pair as Pair
use Rattle.po_model.specs.contracts.rule.Pattern as Pattern
use Rattle.po_model.specs.contracts.rule.Rule as Rule
use Rattle.po_model.specs.contracts.rule.Shape as Shape
use Rattle.po_rule.specs.declared.lookup.Lookup as Lookup
use Rattle.po_store.proofs.desk.Desk.TheSendSync as desk
use Rattle.po_store.specs.contracts.publisher.Entry as Entry
use Rattle.po_store.specs.contracts.publisher.Publisher as Publisher
use Rattle.po_store.specs.declared.edition.Edition as Edition
use Rattle.po_store.specs.declared.name.StoreName as StoreName

pub term_field_send : IsSend (Term.the_field).row
term_field_send =
    search (term.crosses, crosses, sendable) depth 60 fits 20000

pub term_send : IsSend Term.the_row
term_send = search (term_field_send, crosses, sendable) depth 60 fits 20000

pub term_field_sync : IsSync (Term.the_field).row
term_field_sync =
    search (term.crosses, crosses, sendable) depth 60 fits 20000

pub term_sync : IsSync Term.the_row
term_sync = search (term_field_sync, crosses, sendable) depth 60 fits 20000

pub condition_field_send : IsSend (Cond.the_field).row
condition_field_send =
    search (term_field_send, crosses, sendable) depth 60 fits 20000

pub condition_send : IsSend Cond.the_row
condition_send = search (condition_field_send, crosses, sendable) depth 60 fits 20000

pub condition_field_sync : IsSync (Cond.the_field).row
condition_field_sync =
    search (term_field_sync, crosses, sendable) depth 60 fits 20000

pub condition_sync : IsSync Cond.the_row
condition_sync = search (condition_field_sync, crosses, sendable) depth 60 fits 20000

pub transfer_field_send : IsSend (Transfer.the_field).row
transfer_field_send =
    search (term_field_send, condition_field_send, crosses, sendable) depth 60 fits 20000

pub transfer_send : IsSend Transfer.the_row
transfer_send = search (transfer_field_send, crosses, sendable) depth 60 fits 20000

pub transfer_field_sync : IsSync (Transfer.the_field).row
transfer_field_sync =
    search (term_field_sync, condition_field_sync, crosses, sendable) depth 60 fits 20000

pub transfer_sync : IsSync Transfer.the_row
transfer_sync = search (transfer_field_sync, crosses, sendable) depth 60 fits 20000

pub instruction_field_send : IsSend (Instr.the_field).row
instruction_field_send =
    search (transfer_send, crosses, sendable) depth 60 fits 20000

pub instruction_send : IsSend Instr.the_row
instruction_send = search (instruction_field_send, crosses, sendable) depth 60 fits 20000

pub instruction_field_sync : IsSync (Instr.the_field).row
instruction_field_sync =
    search (transfer_sync, crosses, sendable) depth 60 fits 20000

pub instruction_sync : IsSync Instr.the_row
instruction_sync = search (instruction_field_sync, crosses, sendable) depth 60 fits 20000

pub pair_field_send : IsSend (Pair.the_field).row
pair_field_send =
    search (instruction_field_send, live.the_field_send, crosses, sendable) depth 60 fits 20000

pub pair_send : IsSend Pair.the_row
pair_send = search (pair_field_send, crosses, sendable) depth 60 fits 20000

pub pair_field_sync : IsSync (Pair.the_field).row
pair_field_sync =
    search (instruction_field_sync, live.the_field_sync, crosses, sendable) depth 60 fits 20000

pub pair_sync : IsSync Pair.the_row
pair_sync = search (pair_field_sync, crosses, sendable) depth 60 fits 20000

pub entry_field_send : IsSend (Entry.the_field).row
entry_field_send =
    search (pair_field_send, crosses, sendable) depth 60 fits 20000

pub entry_send : IsSend Entry.the_row
entry_send = search (entry_field_send, crosses, sendable) depth 60 fits 20000

pub entry_field_sync : IsSync (Entry.the_field).row
entry_field_sync =
    search (pair_field_sync, crosses, sendable) depth 60 fits 20000

pub entry_sync : IsSync Entry.the_row
entry_sync = search (entry_field_sync, crosses, sendable) depth 60 fits 20000

pub expression_field_send : IsSend (CExpr.the_field).row
expression_field_send =
    search (expression.crosses, crosses, sendable) depth 60 fits 20000

pub expression_send : IsSend CExpr.the_row
expression_send = search (expression_field_send, crosses, sendable) depth 60 fits 20000

pub expression_field_sync : IsSync (CExpr.the_field).row
expression_field_sync =
    search (expression.crosses, crosses, sendable) depth 60 fits 20000

pub expression_sync : IsSync CExpr.the_row
expression_sync = search (expression_field_sync, crosses, sendable) depth 60 fits 20000

pub pattern_term_field_send : IsSend (PTerm.the_field).row
pattern_term_field_send =
    search (expression_field_send, pattern_term.crosses, crosses, sendable) depth 60 fits 20000

pub pattern_term_send : IsSend PTerm.the_row
pattern_term_send = search (pattern_term_field_send, crosses, sendable) depth 60 fits 20000

pub pattern_term_field_sync : IsSync (PTerm.the_field).row
pattern_term_field_sync =
    search (expression_field_sync, pattern_term.crosses, crosses, sendable) depth 60 fits 20000

pub pattern_term_sync : IsSync PTerm.the_row
pattern_term_sync = search (pattern_term_field_sync, crosses, sendable) depth 60 fits 20000

pub pattern_condition_field_send : IsSend (PCond.the_field).row
pattern_condition_field_send =
    search (pattern_term_field_send, crosses, sendable) depth 60 fits 20000

pub pattern_condition_send : IsSend PCond.the_row
pattern_condition_send = search (pattern_condition_field_send, crosses, sendable) depth 60 fits 20000

pub pattern_condition_field_sync : IsSync (PCond.the_field).row
pattern_condition_field_sync =
    search (pattern_term_field_sync, crosses, sendable) depth 60 fits 20000

pub pattern_condition_sync : IsSync PCond.the_row
pattern_condition_sync = search (pattern_condition_field_sync, crosses, sendable) depth 60 fits 20000

pub pattern_transfer_field_send : IsSend (PTransfer.the_field).row
pattern_transfer_field_send =
    search (pattern_term_field_send, pattern_condition_field_send, crosses, sendable) depth 60 fits 20000

pub pattern_transfer_send : IsSend PTransfer.the_row
pattern_transfer_send = search (pattern_transfer_field_send, crosses, sendable) depth 60 fits 20000

pub pattern_transfer_field_sync : IsSync (PTransfer.the_field).row
pattern_transfer_field_sync =
    search (pattern_term_field_sync, pattern_condition_field_sync, crosses, sendable) depth 60 fits 20000

pub pattern_transfer_sync : IsSync PTransfer.the_row
pattern_transfer_sync = search (pattern_transfer_field_sync, crosses, sendable) depth 60 fits 20000

pub shape_field_send : IsSend (Shape.the_field).row
shape_field_send =
    search (pattern_transfer_send, crosses, sendable) depth 60 fits 20000

pub shape_send : IsSend Shape.the_row
shape_send = search (shape_field_send, crosses, sendable) depth 60 fits 20000

pub shape_field_sync : IsSync (Shape.the_field).row
shape_field_sync =
    search (pattern_transfer_sync, crosses, sendable) depth 60 fits 20000

pub shape_sync : IsSync Shape.the_row
shape_sync = search (shape_field_sync, crosses, sendable) depth 60 fits 20000

pub pattern_field_send : IsSend (Pattern.the_field).row
pattern_field_send =
    search (pattern_transfer_send, crosses, sendable) depth 60 fits 20000

pub pattern_send : IsSend Pattern.the_row
pattern_send = search (pattern_field_send, crosses, sendable) depth 60 fits 20000

pub pattern_field_sync : IsSync (Pattern.the_field).row
pattern_field_sync =
    search (pattern_transfer_sync, crosses, sendable) depth 60 fits 20000

pub pattern_sync : IsSync Pattern.the_row
pattern_sync = search (pattern_field_sync, crosses, sendable) depth 60 fits 20000

pub rule_field_send : IsSend (Rule.the_field).row
rule_field_send =
    search (shape_field_send, pattern_field_send, expression_field_send, crosses, sendable) depth 60 fits 20000

pub rule_send : IsSend Rule.the_row
rule_send = search (rule_field_send, crosses, sendable) depth 60 fits 20000

pub rule_field_sync : IsSync (Rule.the_field).row
rule_field_sync =
    search (shape_field_sync, pattern_field_sync, expression_field_sync, crosses, sendable) depth 60 fits 20000

pub rule_sync : IsSync Rule.the_row
rule_sync = search (rule_field_sync, crosses, sendable) depth 60 fits 20000

module _ (V T L R : RattleType) (e : Edition.Ghosts V.Denot T.Denot L.Denot)
    (a : Absorb.Ghosts V.Denot V.Denot V.Denot) (t : Lookup.Ghosts T.Denot) (n : StoreName.Ghosts L.Denot)
    (l : Ledger.Ghosts L.Denot) where
  pub publisher_send : IsSend V → IsSync V → IsSend T → IsSync T → IsSend L → IsSync L → IsSend R → IsSync R →
      IsSend (Publisher.the_row V T L R e a t n l)
  publisher_send vs vy ts ty ls ly rs ry =
      search (desk.the_send, entry_send, book.the_send, share.the_send, crosses, sendable) depth 60 fits 20000
