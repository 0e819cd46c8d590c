-- Machines, codes, briefs, seats, and what workers and learners share may cross threads: from one part to the next,
-- each by a search of its own.
use denote.RattleType.{RattleType}
use denote.Param.Send.{IsSend, IsSync, sendable}
use denote.Param.Send.{part_keyless}
use denote.Ref.{NamedLft}
use Rattle.atomic_table.proofs.shared.Seat.TheSendSync as seat
use Rattle.atomic_table.specs.contracts.shared.Seat as Seat
use Rattle.crossbeam_queue.proofs.array_queue.Slotted.TheSendSync as line
use Rattle.crossbeam_utils.proofs.atomic.seq_cell.Wide.TheSendSync as tally
use Rattle.left_right.specs.declared.Absorb as Absorb
use Rattle.std.below.std_heap.proofs.GlobalAllocator.TheSendSync as heap
use Rattle.std.proofs.Crossing.{crosses}
use Rattle.std.proofs.alloc.Global.TheSendSync as global
use Rattle.std.specs.contracts.sync.Mutex as Mutex
use Rattle.std.proofs.option.Option.TheSendSync as option
use Rattle.std.proofs.sync.ledger.Share.TheSendSync as share
use Rattle.std.specs.declared.sync.ledger.Ledger as Ledger
use Rattle.po_fore.specs.contracts.report.Hit as Hit
use Rattle.po_model.proofs.machine.PatTerm.TheLaws.TheKnot as pattern
use Rattle.po_model.specs.contracts.code.Block as Block
use Rattle.po_model.specs.contracts.code.Code as Code
use Rattle.po_model.specs.contracts.code.UnitCode as UnitCode
use Rattle.po_model.specs.contracts.machine.Entry as Entry
use Rattle.po_model.specs.contracts.machine.Machine as Machine
use Rattle.po_model.specs.contracts.machine.PatCond as PatCond
use Rattle.po_model.specs.contracts.machine.PatTerm as PatTerm
use Rattle.po_model.specs.contracts.machine.PatTransfer as PatTransfer
use Rattle.po_pool.proofs.bell.Bell.TheSendSync as bell
use Rattle.po_queue.proofs.pass.Pass.TheSendSync as pass
use Rattle.po_queue.specs.contracts.pass.Pass as Pass
use Rattle.po_queue.specs.contracts.posts.Posts as Posts
use Rattle.po_rule.specs.contracts.miss.Miss as Miss
use Rattle.po_rule.specs.declared.lookup.Lookup as Lookup
use Rattle.po_store.proofs.Crossing.{instruction_send, instruction_sync, pair_field_send, pair_field_sync}
use Rattle.po_store.proofs.Crossing.{pair_send, pair_sync, publisher_send, rule_send, rule_sync}
use Rattle.po_store.specs.declared.edition.Edition as Edition
use Rattle.po_store.specs.declared.name.StoreName as StoreName
use Rattle.po_team.proofs.way.Way.TheSendSync as way
use Rattle.po_team.specs.contracts.learners.LearnerSeat as LearnerSeat
use Rattle.po_team.specs.contracts.learners.Learners as Learners
use Rattle.po_team.specs.contracts.taught.Taught as Taught
use Rattle.po_tally.specs.contracts.brief.Brief as Brief
use Rattle.po_tally.specs.contracts.tally.Tally as Tally
use Rattle.po_team.specs.contracts.workers.WorkerSeat as WorkerSeat
use Rattle.po_team.specs.contracts.workers.Workers as Workers

-- machines

pub pat_term_field_send : IsSend (PatTerm.the_field).row
pat_term_field_send = search (pattern.crosses, crosses, sendable) depth 60 fits 20000

pub pat_term_send : IsSend PatTerm.the_row
pat_term_send = search (pat_term_field_send, crosses, sendable) depth 60 fits 20000

pub pat_term_field_sync : IsSync (PatTerm.the_field).row
pat_term_field_sync = search (pattern.crosses, crosses, sendable) depth 60 fits 20000

pub pat_term_sync : IsSync PatTerm.the_row
pat_term_sync = search (pat_term_field_sync, crosses, sendable) depth 60 fits 20000

pub pat_condition_field_send : IsSend (PatCond.the_field).row
pat_condition_field_send = search (pat_term_field_send, crosses, sendable) depth 60 fits 20000

pub pat_condition_send : IsSend PatCond.the_row
pat_condition_send = search (pat_condition_field_send, crosses, sendable) depth 60 fits 20000

pub pat_condition_field_sync : IsSync (PatCond.the_field).row
pat_condition_field_sync = search (pat_term_field_sync, crosses, sendable) depth 60 fits 20000

pub pat_condition_sync : IsSync PatCond.the_row
pat_condition_sync = search (pat_condition_field_sync, crosses, sendable) depth 60 fits 20000

pub pat_transfer_field_send : IsSend (PatTransfer.the_field).row
pat_transfer_field_send = search (pat_term_field_send, pat_condition_field_send, crosses, sendable) depth 60 fits 20000

pub pat_transfer_send : IsSend PatTransfer.the_row
pat_transfer_send = search (pat_transfer_field_send, crosses, sendable) depth 60 fits 20000

pub pat_transfer_field_sync : IsSync (PatTransfer.the_field).row
pat_transfer_field_sync = search (pat_term_field_sync, pat_condition_field_sync, crosses, sendable) depth 60 fits 20000

pub pat_transfer_sync : IsSync PatTransfer.the_row
pat_transfer_sync = search (pat_transfer_field_sync, crosses, sendable) depth 60 fits 20000

pub entry_field_send : IsSend (Entry.the_field).row
entry_field_send = search (pat_transfer_send, crosses, sendable) depth 60 fits 20000

pub entry_send : IsSend Entry.the_row
entry_send = search (entry_field_send, crosses, sendable) depth 60 fits 20000

pub entry_field_sync : IsSync (Entry.the_field).row
entry_field_sync = search (pat_transfer_sync, crosses, sendable) depth 60 fits 20000

pub entry_sync : IsSync Entry.the_row
entry_sync = search (entry_field_sync, crosses, sendable) depth 60 fits 20000

pub machine_field_send : IsSend (Machine.the_field).row
machine_field_send = search (entry_send, crosses, sendable) depth 60 fits 20000

pub machine_send : IsSend Machine.the_row
machine_send = search (machine_field_send, crosses, sendable) depth 60 fits 20000

pub machine_field_sync : IsSync (Machine.the_field).row
machine_field_sync = search (entry_sync, crosses, sendable) depth 60 fits 20000

pub machine_sync : IsSync Machine.the_row
machine_sync = search (machine_field_sync, crosses, sendable) depth 60 fits 20000

-- codes and briefs

pub block_field_send : IsSend (Block.the_field).row
block_field_send = search (instruction_send, crosses, sendable) depth 60 fits 20000

pub block_send : IsSend Block.the_row
block_send = search (block_field_send, crosses, sendable) depth 60 fits 20000

pub block_field_sync : IsSync (Block.the_field).row
block_field_sync = search (instruction_sync, crosses, sendable) depth 60 fits 20000

pub block_sync : IsSync Block.the_row
block_sync = search (block_field_sync, crosses, sendable) depth 60 fits 20000

pub code_field_send : IsSend (Code.the_field).row
code_field_send = search (block_send, crosses, sendable) depth 60 fits 20000

pub code_send : IsSend Code.the_row
code_send = search (code_field_send, crosses, sendable) depth 60 fits 20000

pub code_field_sync : IsSync (Code.the_field).row
code_field_sync = search (block_sync, crosses, sendable) depth 60 fits 20000

pub code_sync : IsSync Code.the_row
code_sync = search (code_field_sync, crosses, sendable) depth 60 fits 20000

pub unit_field_send : IsSend (UnitCode.the_field).row
unit_field_send = search (code_field_send, crosses, sendable) depth 60 fits 20000

pub unit_send : IsSend UnitCode.the_row
unit_send = search (unit_field_send, crosses, sendable) depth 60 fits 20000

pub unit_field_sync : IsSync (UnitCode.the_field).row
unit_field_sync = search (code_field_sync, crosses, sendable) depth 60 fits 20000

pub unit_sync : IsSync UnitCode.the_row
unit_sync = search (unit_field_sync, crosses, sendable) depth 60 fits 20000

pub hit_field_send : IsSend (Hit.the_field).row
hit_field_send = search (pair_field_send, rule_send, rule_sync, crosses, sendable) depth 60 fits 20000

pub hit_send : IsSend Hit.the_row
hit_send = search (hit_field_send, crosses, sendable) depth 60 fits 20000

pub hit_field_sync : IsSync (Hit.the_field).row
hit_field_sync = search (pair_field_sync, rule_send, rule_sync, crosses, sendable) depth 60 fits 20000

pub hit_sync : IsSync Hit.the_row
hit_sync = search (hit_field_sync, crosses, sendable) depth 60 fits 20000

pub tally_field_send : IsSend (Tally.the_field).row
tally_field_send = search (hit_field_send, crosses, sendable) depth 60 fits 20000

pub tally_send : IsSend Tally.the_row
tally_send = search (tally_field_send, crosses, sendable) depth 60 fits 20000

pub tally_field_sync : IsSync (Tally.the_field).row
tally_field_sync = search (hit_field_sync, crosses, sendable) depth 60 fits 20000

pub tally_sync : IsSync Tally.the_row
tally_sync = search (tally_field_sync, crosses, sendable) depth 60 fits 20000

pub brief_field_send : IsSend (Brief.the_field).row
brief_field_send = search (unit_field_send, tally_send, pair_send, crosses, sendable) depth 60 fits 20000

pub brief_send : IsSend Brief.the_row
brief_send = search (brief_field_send, crosses, sendable) depth 60 fits 20000

pub brief_field_sync : IsSync (Brief.the_field).row
brief_field_sync = search (unit_field_sync, tally_sync, pair_sync, crosses, sendable) depth 60 fits 20000

pub brief_sync : IsSync Brief.the_row
brief_sync = search (brief_field_sync, crosses, sendable) depth 60 fits 20000

-- misses, and the queue

pub miss_send : IsSend Miss.the_row
miss_send = search (pair_field_send, crosses, sendable) depth 60 fits 20000

pub miss_sync : IsSync Miss.the_row
miss_sync = search (pair_field_sync, crosses, sendable) depth 60 fits 20000

pub pass_send : IsSend (Pass.the_row Miss.the_row)
pass_send = search (pass.the_send, miss_send, crosses, sendable) depth 60 fits 20000

-- a seat that is shared is a whole one
seat_sync : (S V : RattleType) → IsSend S → IsSync (Seat.the_row S V)
seat_sync S V s = record { shared = λ d b o κ q. part_keyless (Seat.the_row S V) (seat.the_send S V s) q d b o }

pub pass_sync : IsSync (Pass.the_row Miss.the_row)
pass_sync = search (seat_sync, option.the_send, miss_send, crosses, sendable) depth 60 fits 20000

pub posts_sync : IsSync (Posts.the_row Miss.the_row)
posts_sync =
    search (
      line.the_field_sync,
      tally.the_field_sync,
      pass_sync,
      option.the_send,
      miss_send,
      global.the_send,
      global.the_sync,
      heap.the_frees,
      crosses,
      sendable,
    ) depth 60 fits 20000

-- seats, and the publisher under its lock
module _ (T L : RattleType) (t : Lookup.Ghosts T.Denot) (n : StoreName.Ghosts L.Denot)
    (l : Ledger.Ghosts L.Denot) where
  pub worker_seat_send : IsSend T → IsSync T → IsSend (WorkerSeat.the_row T L t n l)
  worker_seat_send ts ty = search (way.the_send, pass_send, crosses, sendable) depth 60 fits 20000

  pub learner_seat_send : IsSend (LearnerSeat.the_row L l)
  learner_seat_send = search (share.the_send, pass_send, crosses, sendable) depth 60 fits 20000

module _ (V T L R : RattleType) (e : Edition.Ghosts V.Denot T.Denot L.Denot)
    (a : Absorb.Ghosts V.Denot V.Denot V.Denot) (t : Lookup.Ghosts T.Denot) (n : StoreName.Ghosts L.Denot)
    (l : Ledger.Ghosts L.Denot) where
  pub taught_send : IsSend V → IsSync V → IsSend T → IsSync T → IsSend L → IsSync L → IsSend R → IsSync R →
      IsSend (Taught.the_row V T L R e a t n l)
  taught_send vs vy ts ty ls ly rs ry =
      search (publisher_send, crosses, sendable) depth 60 fits 20000

-- what workers and learners share
module _ (a : NamedLft) (V T L R W G : RattleType) (e : Edition.Ghosts V.Denot T.Denot L.Denot)
    (b : Absorb.Ghosts V.Denot V.Denot V.Denot) (t : Lookup.Ghosts T.Denot) (n : StoreName.Ghosts L.Denot)
    (l : Ledger.Ghosts L.Denot) (vs : IsSend V) (vy : IsSync V) (ts : IsSend T) (ty : IsSync T) (ls : IsSend L)
    (ly : IsSync L) (rs : IsSend R) (ry : IsSync R) (wy : IsSync W) (gy : IsSync G) where
  locked_send : IsSend (Taught.the_row V T L R e b t n l)
  locked_send = taught_send V T L R e b t n l vs vy ts ty ls ly rs ry

  locked_sync : IsSync (Mutex.the_row (Taught.the_row V T L R e b t n l))
  locked_sync = search (locked_send, crosses, sendable) depth 60 fits 20000

  pub workers_sync : IsSync (Workers.the_row a V T L R W G e b t n l)
  workers_sync =
      search (machine_sync, unit_sync, posts_sync, bell.the_sync, locked_sync, crosses, sendable) depth 60 fits 20000

  pub learners_sync : IsSync (Learners.the_row a V T L R W G e b t n l)
  learners_sync =
      search (machine_send, machine_sync, posts_sync, locked_sync, crosses, sendable) depth 60 fits 20000
