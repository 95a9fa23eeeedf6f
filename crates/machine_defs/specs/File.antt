-- The file that the assembler writes: an ELF file of one segment, with 120 bytes before the code (System V ABI,
-- "ELF Header", "Program Header"). The code lies at 0x10078, where the program starts.
use Rattle.std.specs.Prelude.{ℕ, List, [], ◌∷◌, ◌++◌, length}
use Rattle.std.specs.Int.{w16, w32, w64, to_le_bytes}

abbrev pub half : ℕ → List ℕ
half n = to_le_bytes w16 n

abbrev pub word : ℕ → List ℕ
word n = to_le_bytes w32 n

abbrev pub long : ℕ → List ℕ
long n = to_le_bytes w64 n

-- e_ident: the magic number, 64 bits, lowest byte first, version 1
abbrev pub ident : List ℕ
ident = 0x7f ∷ 0x45 ∷ 0x4c ∷ 0x46 ∷ 2 ∷ 1 ∷ 1 ∷ 0 ∷ 0 ∷ 0 ∷ 0 ∷ 0 ∷ 0 ∷ 0 ∷ 0 ∷ 0 ∷ []

-- an executable file (2) of RISC-V (243) with version 1, its entry, the place of its one program header, and no sections
abbrev pub file_header : List ℕ
file_header =
    ident ++ (half 2 ++ (half 243 ++ (word 1 ++ (long 0x10078 ++ (long 64 ++ (long 0 ++ (word 0
    ++ (half 64 ++ (half 56 ++ (half 1 ++ (half 0 ++ (half 0 ++ half 0))))))))))))

-- a segment (1) that is read and run (5), from byte 120 of the file on, at its place in memory
abbrev pub segment_start : List ℕ
segment_start = word 1 ++ (word 5 ++ (long 120 ++ (long 0x10078 ++ long 0x10078)))

unfoldable pub head : List ℕ
head = file_header ++ segment_start

-- with its size in the file and in memory, and an alignment of 4,096
unfoldable pub elf_file : List ℕ → List ℕ
elf_file code = head ++ (long (length code) ++ (long (length code) ++ (long 4096 ++ code)))
