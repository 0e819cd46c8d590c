-- What a name stands for where nothing picks it.
use Rattle.std.specs.Prelude.{[]}
use Rattle.po_model.specs.declared.machine.Machine.{Machine}

abbrev pub any_machine : Machine
any_machine = record { name = []; frame = []; result = []; args = []; regs = []; entries = [] }
