-- The numbers of document 01.
use Rattle.std.specs.Prelude.{ℕ}
use Rattle.base_numbers.specs.declared.Refusal.{Refusal}
use Rattle.base_numbers.specs.declared.Refusal.TheVariants.{WrongSize, WrongTime, PeerTooLarge, TooLong, WrongClass, TidInUse, TableFull, NoRecord, NotAllowed, WrongSetting, WrongLength, WrongHeader, WrongFrame}
use Rattle.base_numbers.specs.declared.Malformed.{Malformed}
use Rattle.base_numbers.specs.declared.Malformed.TheVariants.{D1, D2, D3, D4, D5, D6, D7}

-- 01, "Numbers given back": the number of a refusal; 15 is that of request L12, "a field outside the records", 16 that of request L13, a malformed frame
abbrev pub number_of : Refusal → ℕ
number_of WrongSize = 1
number_of WrongTime = 2
number_of PeerTooLarge = 3
number_of TooLong = 4
number_of WrongClass = 5
number_of TidInUse = 6
number_of TableFull = 7
number_of NoRecord = 8
number_of NotAllowed = 9
number_of WrongSetting = 10
number_of WrongLength = 11
number_of WrongHeader = 15
number_of WrongFrame = 16

-- 01, "Malformed": Dk is given back as 100 + k, so that it is never taken for a refusal
abbrev pub code_of : Malformed → ℕ
code_of D1 = 101
code_of D2 = 102
code_of D3 = 103
code_of D4 = 104
code_of D5 = 105
code_of D6 = 106
code_of D7 = 107
