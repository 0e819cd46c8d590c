-- The fault that an operation decides behind those before it, and the one that `end` decides.
use Rattle.std.specs.Prelude.{ℕ, List, Bool, not, nat_lt, nat_le, nat_eq, ◌&&◌, ◌||◌, if◌then◌else◌, Option, Some}
use Rattle.std.specs.Prelude.{None, find}
use Rattle.std.specs.List.{list_any}
use Rattle.po_text.specs.declared.fault.Kind.TheVariants as kind
use Rattle.po_lines.specs.declared.fault.LineFault.{LineFault}
use Rattle.po_lines.specs.Faults.{fault, TextFault, text_fault}
use Rattle.po_lines.specs.NameList.{has}
use Rattle.po_ir.specs.declared.unit.Op.{Op}
use Rattle.po_ir.specs.declared.unit.Jump.{Jump}
use Rattle.po_ir.specs.Ops.{pops, is_boundary, label_in, depth_of, depth_by, labels_of, args_of, args_wanted}
use Rattle.po_ir.specs.Ops.{ends_well}

-- it names a label that is there already
abbrev pub repeats : List (List ℕ) → Op → Bool
repeats labels o = list_any (λ l. has l labels) (label_in o)

-- the argument k isn't below n, or it is set
abbrev pub has_arg : ℕ → List ℕ → ℕ → Bool
has_arg n args k = nat_le n k || list_any (nat_eq k) args

-- each argument below n is set; n is at most 4
abbrev pub has_args : ℕ → List ℕ → Bool
has_args n args = has_arg n args 0 && has_arg n args 1 && has_arg n args 2 && has_arg n args 3

-- the fault of an operation, whose label stands at this column, where so many values are on the stack, these labels
-- are in the unit and these arguments are set
abbrev pub op_fault : ℕ → List (List ℕ) → List ℕ → Op → ℕ → Option LineFault
op_fault depth labels args o column = if repeats labels o then Some (fault column kind.Duplicate)
    else (if nat_lt depth (pops o) then Some (fault 1 kind.StackUnderflow)
    else (if nat_lt 64 (depth_by depth o) then Some (fault 1 kind.TooMany)
    else (if is_boundary o && nat_lt (pops o) depth then Some (fault 1 kind.StackAtBoundary)
    else (if has_args (args_wanted o) args then None else Some (fault 1 kind.ArgMissing)))))

-- the fault of an operation behind these
abbrev pub decided : List Op → Op → ℕ → Option LineFault
decided os o column = op_fault (depth_of os) (labels_of os) (args_of os) o column

-- the label of this jump isn't there
abbrev pub misses : List (List ℕ) → Jump → Bool
misses labels j = not (has j.label labels)

-- the fault at `end`, in this line, behind these operations and jumps: the first jump whose label isn't in the unit,
-- and else an end that is reached
abbrev pub end_fault : ℕ → List Op → List Jump → Option TextFault
end_fault line os js = no_label (find (misses (labels_of os)) js)
  where
    no_label : Option Jump → Option TextFault
    no_label (Some j) = Some (text_fault j.line j.column kind.NoLabel)
    no_label None = if ends_well os then None else Some (text_fault line 1 kind.FallsOff)
