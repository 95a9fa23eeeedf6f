-- The machine's memory: 4,194,304 bytes in 1,024 pages of 4,096, each of data or of code (RFC 0003,
-- "W^X Memory"). A page of code may be run and read, and a page of data read and written. Addresses are
-- numbers, and the end of a range of bytes does not wrap.
use Rattle.std.specs.Prelude.{ℕ, zero, suc, ◌+◌, ◌-◌, ◌*◌, ◌/◌, ◌%◌, ◌^◌, ◌==◌, nat_lt, Bool, true, false, List, [], ◌∷◌, ◌++◌, length, take, drop, replicate, slice_range, Result, Ok, Err, if◌then◌else◌}
use Rattle.std.specs.List.{list_any, list_all}
use Rattle.machine_defs.specs.declared.memory.PageKind.{PageKind}
use Rattle.machine_defs.specs.declared.memory.PageKind.TheVariants.{Data, Code}
use Rattle.machine_defs.specs.declared.memory.Width.{Width}
use Rattle.machine_defs.specs.declared.memory.Width.TheVariants.{B1, B2, B4, B8}
use Rattle.machine_defs.specs.declared.memory.MemFault.{MemFault}
use Rattle.machine_defs.specs.declared.memory.MemFault.TheVariants.{Range, WriteCode, RunData}

abbrev pub page_size : ℕ
page_size = 4096

unfoldable pub page_count : ℕ
page_count = 1024

unfoldable pub memory_size : ℕ
memory_size = 4194304

-- each byte, and the kind of each page
pub record Memory : Type 0 where
  pub bytes : List ℕ
  pub kinds : List PageKind

abbrev pub is_code : PageKind → Bool
is_code Data = false
is_code Code = true

abbrev pub byte_count : Width → ℕ
byte_count B1 = 1
byte_count B2 = 2
byte_count B4 = 4
byte_count B8 = 8

-- ---- numbers in memory: the byte at the lowest address is the lowest

abbrev pub number_of : List ℕ → ℕ
number_of [] = 0
number_of (byte ∷ bytes) = byte + 256 * number_of bytes

-- the lowest `count` bytes of a number
abbrev pub bytes_of : ℕ → ℕ → List ℕ
bytes_of zero n = []
bytes_of (suc count) n = n % 256 ∷ bytes_of count (n / 256)

-- a list with other items from a place on, as many as are given
abbrev pub overwritten : {X : Type 0} → List X → ℕ → List X → List X
overwritten items at others = take at items ++ others ++ drop (at + length others) items

-- ---- ranges

-- the end of `count` bytes from an address on is past memory, also where they are none
unfoldable pub is_out_of_range : ℕ → ℕ → Bool
is_out_of_range at count = nat_lt memory_size (at + count)

-- the kinds of the pages in which `count` bytes from an address on lie, from the page of the first byte
-- to that of the last
unfoldable pub kinds_under : Memory → ℕ → ℕ → List PageKind
kinds_under memory at count =
    if count == 0 then [] else slice_range memory.kinds (at / page_size) ((at + count - 1) / page_size + 1)

-- ---- accesses, each with the fault that comes first

unfoldable pub load : Memory → ℕ → ℕ → Result ℕ MemFault
load memory at count =
    if is_out_of_range at count then Err Range
    else Ok (number_of (slice_range memory.bytes at (at + count)))

unfoldable pub store : Memory → ℕ → List ℕ → Result Memory MemFault
store memory at bytes =
    if is_out_of_range at (length bytes) then Err Range
    else if list_any is_code (kinds_under memory at (length bytes)) then Err WriteCode
    else Ok (record memory { bytes = overwritten memory.bytes at bytes })

-- two bytes of code
unfoldable pub fetch_pair : Memory → ℕ → Result ℕ MemFault
fetch_pair memory at =
    if is_out_of_range at 2 then Err Range
    else if list_all is_code (kinds_under memory at 2) then Ok (number_of (slice_range memory.bytes at (at + 2)))
    else Err RunData

abbrev pub with_high_pair : ℕ → Result ℕ MemFault → Result ℕ MemFault
with_high_pair low (Ok high) = Ok (low + 2 ^ 16 * high)
with_high_pair low (Err fault) = Err fault

-- Two bytes are fetched, and two more where the low two bits are 11 ("Expanded Instruction-Length
-- Encoding"); else the high half is zero.
abbrev pub with_next_pair : Memory → ℕ → Result ℕ MemFault → Result ℕ MemFault
with_next_pair memory at (Ok low) = if low % 4 == 3 then with_high_pair low (fetch_pair memory (at + 2)) else Ok low
with_next_pair memory at (Err fault) = Err fault

unfoldable pub fetch : Memory → ℕ → Result ℕ MemFault
fetch memory at = with_next_pair memory at (fetch_pair memory at)

-- So many whole pages become code, which were data. The address is a multiple of the page size.
unfoldable pub set_code : Memory → ℕ → ℕ → Result Memory MemFault
set_code memory at pages =
    if is_out_of_range at (page_size * pages) then Err Range
    else if list_any is_code (kinds_under memory at (page_size * pages)) then Err WriteCode
    else Ok (record memory { kinds = overwritten memory.kinds (at / page_size) (replicate pages Code) })

-- a new memory is zero, and all of it data
unfoldable pub new_memory : Memory
new_memory = record { bytes = replicate memory_size 0; kinds = replicate page_count Data }
