use Rattle.po_word.proofs.Bitwise.{and-bit, or-bit, xor-bit, not-bit}
use Rattle.po_word.proofs.laws.bit_by_bit.Goals as goal

pub returns-clause-and : goal.returns-clause-and
returns-clause-and c = and-bit c.args.a c.args.b c.args.i

pub returns-clause-or : goal.returns-clause-or
returns-clause-or c = or-bit c.args.a c.args.b c.args.i

pub returns-clause-xor : goal.returns-clause-xor
returns-clause-xor c = xor-bit c.args.a c.args.b c.args.i

pub returns-clause-turned : goal.returns-clause-turned
returns-clause-turned c within = not-bit c.args.a c.args.i c.ranges.a.fits within
