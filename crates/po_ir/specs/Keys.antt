-- The words that the lines inside a unit begin with.
use Rattle.std.specs.Prelude.{ℕ, List, [], ◌∷◌, codes, Option, find}
use Rattle.po_word.specs.declared.operator.Bin.{Bin}
use Rattle.po_word.specs.declared.operator.Bin.TheVariants as bin
use Rattle.po_word.specs.declared.operator.Un.{Un}
use Rattle.po_word.specs.declared.operator.Un.TheVariants as un
use Rattle.po_word.specs.declared.operator.Rel.{Rel}
use Rattle.po_word.specs.declared.operator.Rel.TheVariants as rel
use Rattle.po_lines.specs.Leaves.{same}
use Rattle.po_ir.specs.declared.unit.Key.{Key}
use Rattle.po_ir.specs.declared.unit.Key.TheVariants as key

-- the word of an operator of two values
abbrev pub bin_text : Bin → List ℕ
bin_text bin.Add = codes "add"
bin_text bin.Sub = codes "sub"
bin_text bin.Mul = codes "mul"
bin_text bin.And = codes "and"
bin_text bin.Or = codes "ior"
bin_text bin.Xor = codes "xor"
bin_text bin.Shl = codes "shl"
bin_text bin.Shr = codes "shr"
bin_text bin.Sar = codes "sar"

-- the word of an operator of one value
abbrev pub un_text : Un → List ℕ
un_text un.Neg = codes "neg"
un_text un.Not = codes "not"

-- the word of a branch
abbrev pub rel_text : Rel → List ℕ
rel_text rel.Eq = codes "beq"
rel_text rel.Ne = codes "bne"
rel_text rel.Lt = codes "blt"
rel_text rel.Le = codes "ble"
rel_text rel.Gt = codes "bgt"
rel_text rel.Ge = codes "bge"
rel_text rel.Ltu = codes "bltu"
rel_text rel.Geu = codes "bgeu"

-- the word that each line begins with
-- ORDER: operations
abbrev pub key_text : Key → List ℕ
key_text key.Con = codes "con"
key_text key.Adl = codes "adl"
key_text key.Adg = codes "adg"
key_text key.Lod = codes "lod"
key_text key.Sto = codes "sto"
key_text key.Dup = codes "dup"
key_text key.Pop = codes "pop"
key_text key.Lab = codes "lab"
key_text key.Jmp = codes "jmp"
key_text key.Arg = codes "arg"
key_text key.Call = codes "call"
key_text key.Ret = codes "ret"
key_text (key.Bin o) = bin_text o
key_text (key.Un o) = un_text o
key_text (key.Br r) = rel_text r

-- all of them
abbrev pub keys : List Key
keys =
    key.Con ∷ key.Adl ∷ key.Adg ∷ key.Lod ∷ key.Sto ∷ key.Dup ∷ key.Pop ∷ key.Lab ∷ key.Jmp ∷ key.Arg ∷ key.Call
    ∷ key.Ret
    ∷ key.Bin bin.Add ∷ key.Bin bin.Sub ∷ key.Bin bin.Mul ∷ key.Bin bin.And ∷ key.Bin bin.Or ∷ key.Bin bin.Xor
    ∷ key.Bin bin.Shl ∷ key.Bin bin.Shr ∷ key.Bin bin.Sar ∷ key.Un un.Neg ∷ key.Un un.Not
    ∷ key.Br rel.Eq ∷ key.Br rel.Ne ∷ key.Br rel.Lt ∷ key.Br rel.Le ∷ key.Br rel.Gt ∷ key.Br rel.Ge
    ∷ key.Br rel.Ltu ∷ key.Br rel.Geu ∷ []

-- the one whose word this is, if a line inside a unit may begin with it
unfoldable pub key_of_word : List ℕ → Option Key
key_of_word w = find (λ k. same w (key_text k)) keys
