-- Transcript: 01's bench program in the rules' words. View: what the register and a delivery mean. Program: what the program does with what it reads.
pub mod Transcript
pub mod View
pub mod Program
