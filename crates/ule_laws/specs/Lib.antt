pub mod SleepCalls
