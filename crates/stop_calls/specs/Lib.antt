pub mod StopCalls
