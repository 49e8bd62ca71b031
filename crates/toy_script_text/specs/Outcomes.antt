-- How a script ends: the status of the program, and what it says on standard error.
use Rattle.std.specs.Prelude.{ℕ, ◌≤◌, ⊤, List, [], ◌++◌, codes, decimal, Result, Ok, Err}
use Rattle.toy_script_text.specs.declared.script_error.ScriptError.{ScriptError}
use Rattle.toy_script_text.specs.declared.script_error.ScriptError.TheVariants.{OutOfMemory, Unreadable, Unwritable, Malformed}

-- why a script wasn't done, as a text
abbrev pub reason : ScriptError → List ℕ
reason OutOfMemory = codes "out of memory"
reason Unreadable = codes "unreadable input"
reason Unwritable = codes "unwritable output"
reason (Malformed line) = codes "line " ++ decimal line ++ codes ": malformed"

-- the status that the program ends with
abbrev pub status_of : Result (Unit {0}) ScriptError → ℕ
status_of (Ok _) = 0
status_of (Err OutOfMemory) = 1
status_of (Err Unreadable) = 2
status_of (Err (Malformed line)) = 2
status_of (Err Unwritable) = 3

-- what the program says on standard error
abbrev pub told_of : Result (Unit {0}) ScriptError → List ℕ
told_of (Ok _) = []
told_of (Err OutOfMemory) = codes "out of memory\n"
told_of (Err Unreadable) = codes "unreadable input\n"
told_of (Err (Malformed line)) = codes "line " ++ decimal line ++ codes ": malformed\n"
told_of (Err Unwritable) = []

-- a script isn't read: for want of memory, or since this line, counted from 1, is malformed
abbrev pub IsOfReading : ScriptError → Type 0
IsOfReading OutOfMemory = ⊤
IsOfReading Unreadable = ⊥
IsOfReading Unwritable = ⊥
IsOfReading (Malformed line) = 1 ≤ line
